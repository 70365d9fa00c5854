use Rattle.std.proofs.Common.{◌≡◌, Some, None, Option, MatchResult, List, ℕ, sym, refl, subst}
use Rattle.std.specs.Option.{ok_or}
use Rattle.vocabulary.specs.Refusals.{notice, plain}
use Rattle.vocabulary.specs.declared.refusal.Refusal.TheVariants.{MalformedName}
use Rattle.f5d.specs.FileNames.{name_of, name_told}
use Rattle.f5d.specs.Names.{IsName, Name, read_name, RightName}
use Rattle.f5d.specs.declared.file_name.FileName.{FileName}
use Rattle.f5d.proofs.FileNames.{only_name}
use Rattle.f5d.proofs.Names.{name_right}
use Rattle.f5d.proofs.name.FileNameTryFromRefSliceU8.try_from.Goals as goal

told : (text : List ℕ) (o : Option FileName) → name_told o ≡ read_name text →
    MatchResult (ok_or o MalformedName) (λ n. IsName (name_of n) text × ((m : Name) → IsName m text → m ≡ name_of n)) (λ e. (notice e ≡ plain 13) × ((n : Name) → IsName n text → ⊥))
told text (Some n) is = (subst (RightName text) (sym is) (name_right text), λ m h. only_name text (name_of n) m is h)
told text None is = (refl, subst (RightName text) (sym is) (name_right text))

pub returns : goal.returns
returns c = rw c.ok_or.ensures.value (told c.args.text.now c.name_in.result c.name_in.ensures)
