-- How many of the first bytes pass a test, and the numbers that digits write.
use Rattle.std.proofs.Common.{◌≡◌, ℕ, zero, suc, ◌+◌, ◌^◌, ◌<◌, ◌≤◌, Bool, true, false, cond, List, [], ◌∷◌, length, get_or, take, refl, arith, not, Some, None, nat_lt}
use native.Mathlib.Numerals.{unary_clauses}
use Rattle.std.proofs.lemmas.List.{length-take-le}
use Rattle.std.proofs.lemmas.Bool.{and_from, and_parts, ltb-false}
use Rattle.std.proofs.lemmas.Bool.Decides.{nat_tests}
use Rattle.std.specs.List.{position, position_or_len}
use Rattle.std.specs.Option.{unwrap_or}
use Rattle.vocabulary.specs.Codes.{is_invoice, visible}
use Rattle.std.specs.List.{list_all}
use Rattle.vocabulary.specs.Ranges.{between}
use Rattle.f5d.specs.Reading.{leading}
use Rattle.f5d.proofs.Fields.{leading_pass}

module _ (test : ℕ → Bool) where
  -- they end where the first byte stands that does not pass
  pub leading_place : (n : ℕ) (bytes : List ℕ) → position_or_len (λ b. not (test b)) (take n bytes) ≡ leading test n bytes
  leading_place zero bytes = refl
  leading_place (suc n) [] = refl
  leading_place (suc n) (b ∷ bytes) = by (test b) (leading_place n bytes)
    where
      by : (t : Bool) {k m : ℕ} → k ≡ m → cond (not (not t)) (1 + k) 0 ≡ cond t (suc m) 0
      by true e = omega arith
      by false e = refl

  counted : (n k : ℕ) (x : Bool) → (bytes : List ℕ) → (k ≤ n) × (k ≤ length bytes) → (cond x (suc k) 0 ≤ suc n) × (cond x (suc k) 0 ≤ suc (length bytes))
  counted n k false bytes few = (omega arith, omega arith)
  counted n k true bytes few = (omega (arith, few.0), omega (arith, few.1))

  pub leading_few : (n : ℕ) (bytes : List ℕ) → (leading test n bytes ≤ n) × (leading test n bytes ≤ length bytes)
  leading_few zero bytes = (omega arith, omega arith)
  leading_few (suc n) [] = (omega arith, omega arith)
  leading_few (suc n) (b ∷ bytes) = counted n (leading test n bytes) (test b) bytes (leading_few n bytes)

-- the place of the first byte that passes a test, or the count of all
first_or_all : (k l : ℕ) (b : Bool) → nat_lt k l ≡ b → k ≤ l → unwrap_or (cond b (Some k) None) l ≡ k
first_or_all k l true e few = refl
first_or_all k l false e few = let g = ltb-false k l e in omega arith

few_before : (p : ℕ → Bool) (bytes : List ℕ) → position_or_len p bytes ≤ length bytes
few_before p [] = omega arith
few_before p (b ∷ bytes) = by (not (p b)) (few_before p bytes)
  where
    by : (t : Bool) {k l : ℕ} → k ≤ l → cond t (1 + k) 0 ≤ suc l
    by true e = omega arith
    by false e = omega arith

pub first_place : (p : ℕ → Bool) (bytes : List ℕ) → unwrap_or (position p bytes) (length bytes) ≡ position_or_len p bytes
first_place p bytes = first_or_all (position_or_len p bytes) (length bytes) (nat_lt (position_or_len p bytes) (length bytes)) refl (few_before p bytes)

-- more digits, more numbers
pub ten_to_more : (i k : ℕ) → 10 ^ i ≤ 10 ^ (i + k)
ten_to_more i zero = simp unary_clauses (omega arith)
ten_to_more i (suc k) = let m = ten_to_more i k in simp unary_clauses (omega arith)

pub every_at : (test : ℕ → Bool) (bytes : List ℕ) (i : ℕ) → list_all test bytes ≡ true → i < length bytes → test (get_or bytes i 0) ≡ true
every_at test [] i e l = absurd (omega arith)
every_at test (b ∷ bytes) zero e l = (and_parts (test b) (list_all test bytes) e).0
every_at test (b ∷ bytes) (suc i) e l = every_at test bytes i (and_parts (test b) (list_all test bytes) e).1 (omega arith)

-- visible bytes, one or more, are an invoice code
pub invoice_leading : (b : List ℕ) → 1 ≤ leading visible 26 b → is_invoice (take (leading visible 26 b) b) ≡ true
invoice_leading b some =
    let few = leading_few visible 26 b in
    let long : length (take (leading visible 26 b) b) ≡ leading visible 26 b = length-take-le (leading visible 26 b) b few.1 in
    and_from (between 1 26 (length (take (leading visible 26 b) b))) (list_all visible (take (leading visible 26 b) b)) (grind (arith, nat_tests, few.0)) (leading_pass visible 26 b)
