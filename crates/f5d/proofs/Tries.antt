-- What `ok_or` and `ok` hand on.
use Rattle.std.proofs.Common.{◌≡◌, Some, None, Ok, Err, Option, Result, MatchResult, sym, ap, subst, arith}
use Rattle.std.specs.Option.{ok_or}
use Rattle.std.specs.Result.{result_ok}
use Rattle.vocabulary.specs.declared.refusal.Refusal.{Refusal}
use Rattle.f5d.specs.FileNames.{name_of, name_told}
use Rattle.f5d.specs.Names.{Name}
use Rattle.f5d.specs.declared.file_name.FileName.{FileName}

-- where there is no value, it is the one that was named
pub told_error : {T E : Type 0} (o : Option T) (e y : E) → o ≡ None → Err y ≡ ok_or o e → y ≡ e
told_error None e y n h = ap (λ r. elim r [ Ok _ ↦ y | Err z ↦ z ]) h
told_error (Some x) e y n h = grind (arith, n)

-- what `ok` handed on was right, and where it handed on nothing the error tells why
pub passed : {T E : Type 0} (P : T → Type 0) (Q : E → Type 0) (r : Result T E) (x : T) → Some x ≡ result_ok r → MatchResult r P Q → P x
passed P Q (Ok y) x e h = subst P (ap (λ o. elim o [ None ↦ y | Some z ↦ z ]) (sym e)) h
passed P Q (Err y) x e h = grind (arith, e)

pub lost : {T E R : Type 0} (P : T → Type 0) (Q : E → Type 0) (r : Result T E) → None ≡ result_ok r → ((e : E) → Q e → R) → MatchResult r P Q → R
lost P Q (Ok y) e f h = grind (arith, e)
lost P Q (Err y) e f h = f y h

-- a name that was made, or none
pub name_or_none : (P : FileName → Type 0) (Q : Refusal → Type 0) (x : Option Name) (r : Result FileName Refusal) → ((n : FileName) → P n → Some (name_of n) ≡ x) → ((e : Refusal) → Q e → None ≡ x) → MatchResult r P Q → name_told (result_ok r) ≡ x
name_or_none P Q x (Ok n) f g h = f n h
name_or_none P Q x (Err e) f g h = g e h
