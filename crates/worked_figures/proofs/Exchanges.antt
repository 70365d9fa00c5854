-- The exchange of one night, computed.
use Rattle.std.proofs.Common.{refl}
use Rattle.std.specs.Fmt.{digits}
use Rattle.f5d.specs.Names.{read_name}
use Rattle.f5d.specs.Reading.{read_file, read_line}
use Rattle.f5d.specs.Written.{label_of, lines_text}
use Rattle.official_time.specs.Dates.{day_of, is_date}
use Rattle.official_time.specs.Hours.{flag, is_label, meant}
use Rattle.worked_figures.specs.Exchanges.{NightAfter, NightExchanged}

pub night_exchanged : NightExchanged
unfolding day_of digits flag is_date is_label label_of lines_text meant read_file read_line read_name
night_exchanged = refl

pub night_after : NightAfter
unfolding day_of digits flag is_date is_label label_of lines_text meant read_file read_line read_name
night_after = record { again = refl; empty = refl }
