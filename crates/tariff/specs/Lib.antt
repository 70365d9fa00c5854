pub mod Timetables
pub mod Rules
pub mod Calendars
