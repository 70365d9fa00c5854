-- What the program's names of files mean.
use Rattle.std.specs.Prelude.{Some, None, Option}
use Rattle.f5d.specs.Names.{Name}
use Rattle.f5d.specs.declared.file_name.FileName.{FileName}

abbrev pub name_of : FileName → Name
name_of n = record { word = n.word; distributor = n.distributor.bytes; retailer = n.retailer.bytes; date = n.date; version = n.version }

abbrev pub name_told : Option FileName → Option Name
name_told None = None
name_told (Some n) = Some (name_of n)
