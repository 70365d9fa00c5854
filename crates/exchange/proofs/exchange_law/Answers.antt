use Rattle.exchange.proofs.CurvesKept.{curves_kept}
use Rattle.exchange.proofs.LedgerKept.{ledger_kept}
use Rattle.exchange.proofs.Sealed.{sealed_as_told}
use Rattle.exchange.proofs.exchange_law.Goals as goal

pub returns : goal.returns
returns c = λ s fit cs. record { sealed_files = sealed_as_told s fit cs; files_and_ledger = ledger_kept s fit cs; curves = curves_kept s fit cs }
