-- What the program's records mean.
use Rattle.std.specs.Prelude.{ℕ, List, take}
use Rattle.vocabulary.specs.Methods.{firmness_number, method_number}
use Rattle.f5d.specs.Records.{Record}
use Rattle.f5d.specs.declared.billed.BilledHour.{BilledHour}
use Rattle.f5d.specs.declared.hours.HourRecord.{HourRecord}
use Rattle.vocabulary.specs.declared.codes.invoice.InvoiceCode.{InvoiceCode}

abbrev pub invoice_text : InvoiceCode → List ℕ
invoice_text i = take i.len i.bytes

-- what is billed in an hour of a supply, as a record
abbrev pub billed_record : List ℕ → ℕ → BilledHour → Record
billed_record supply hour b = record {
  supply = supply;
  hour = hour;
  wh = b.energy.0;
  method = method_number b.method;
  firmness = firmness_number b.firmness;
  invoice = invoice_text b.invoice;
}

abbrev pub record_of : HourRecord → Record
record_of r = billed_record r.at.supply.bytes r.at.hour.number r.billed
