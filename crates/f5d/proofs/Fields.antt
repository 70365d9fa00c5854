-- The fields of a line: what each test says of the bytes, and that each text of a field passes its test.
use Rattle.std.proofs.Common.{◌≡◌, ℕ, zero, suc, ◌+◌, ◌-◌, ◌*◌, ◌/◌, ◌%◌, ◌^◌, ◌<◌, ◌≤◌, Bool, true, false, not, ◌&&◌, ◌||◌, eqb, leb, List, [], ◌∷◌, ◌++◌, length, get_or, take, drop, decimal, sym, refl, ap, ◌∙◌, subst, ⊎_elim, arith, drop-cons}
use Rattle.std.proofs.lemmas.Fmt.{decimal_digit, decimal_nonempty, decimal-digits_value, digits_decimal, first_decimal, length-decimal-le}
use Rattle.std.proofs.lemmas.List.{append_assoc, get_or_append_left, get_or_past, get_or-take, length-take-le}
use Rattle.std.proofs.lemmas.Str.Parse.{FoldsDigits, IsNumeralModel, numerals_by_fold, IsDigitsTest, digits_value_short}
use Rattle.std.proofs.lemmas.Bool.{and_from, and_parts, cases_lt, cond_both, cond-false, cond-true, eq-eqb, eqb-false, eqb-true, le-leb, leb-true, ne_eqb, not_from_false, not-true, or_cases, or_left, or_right, true≢false}
use Rattle.vocabulary.specs.Codes.{code_byte, is_invoice, is_supply, visible}
use Rattle.std.specs.List.{list_all}
use Rattle.vocabulary.specs.Ranges.{between}
use Rattle.official_time.specs.Hours.{is_label, IsLabel}
use Rattle.official_time.specs.Texts.{four_digits, label_text, two_digits}
use Rattle.official_time.specs.declared.label.Label.{Label}
use Rattle.official_time.proofs.Dates.{within}
use Rattle.official_time.proofs.Hours.{flag_small, label_from}
use Rattle.official_time.proofs.Texts.{first_places, real_short}
use Rattle.f5d.specs.Records.{ended}
use Rattle.f5d.specs.Reading.{clock_written, ends_at, label_under, leading, number, one_digit, pair, pair_number}
use Rattle.vocabulary.specs.Codes.{digit}

-- ## Several tests

-- all of them pass
abbrev pub Pass : List Bool → Type 0
Pass [] = Unit {0}
Pass (b ∷ bs) = (b ≡ true) × Pass bs

abbrev pub both_and : Bool → List Bool → Bool
both_and a [] = a
both_and a (b ∷ bs) = both_and (a && b) bs

pub all_pass : (a : Bool) (bs : List Bool) → both_and a bs ≡ true → Pass (a ∷ bs)
all_pass a [] h = (h, tt)
all_pass a (b ∷ bs) h = let k = all_pass (a && b) bs h in let p = and_parts a b k.0 in (p.0, (p.1, k.1))

pub passes_all : (a : Bool) (bs : List Bool) → Pass (a ∷ bs) → both_and a bs ≡ true
passes_all a [] h = h.0
passes_all a (b ∷ bs) h = passes_all (a && b) bs (and_from a b h.0 h.1.0, h.1.1)

-- ## Bytes that all pass a test

module _ (p : ℕ → Bool) where
  pub every_weaker : (q : ℕ → Bool) → ((b : ℕ) → p b ≡ true → q b ≡ true) → (xs : List ℕ) → list_all p xs ≡ true → list_all q xs ≡ true
  every_weaker q h [] a = refl
  every_weaker q h (x ∷ xs) a = let k = and_parts (p x) (list_all p xs) a in and_from (q x) (list_all q xs) (h x k.0) (every_weaker q h xs k.1)

  -- the leading bytes that pass are at most n, and all pass
  pub leading_most : (n : ℕ) (bytes : List ℕ) → leading p n bytes ≤ n
  leading_most zero bytes = omega arith
  leading_most (suc n) [] = omega arith
  leading_most (suc n) (b ∷ bytes) = let h = leading_most n bytes in cond_both (p b) (suc (leading p n bytes)) 0 (λ k. k ≤ suc n) (λ e. omega arith) (λ e. omega arith)

  pub leading_pass : (n : ℕ) (bytes : List ℕ) → list_all p (take (leading p n bytes) bytes) ≡ true
  leading_pass zero bytes = refl
  leading_pass (suc n) [] = refl
  leading_pass (suc n) (b ∷ bytes) =
      let h = leading_pass n bytes in
      cond_both (p b) (suc (leading p n bytes)) 0 (λ k. list_all p (take k (b ∷ bytes)) ≡ true) (λ e. and_from (p b) _ e h) (λ e. refl)

  -- a text that passes leads as far as a byte that does not
  pub leading_text : (n : ℕ) (xs : List ℕ) (c : ℕ) (rest : List ℕ) → list_all p xs ≡ true → length xs ≤ n → p c ≡ false → leading p n (xs ++ c ∷ rest) ≡ length xs
  leading_text zero [] c rest a l e = refl
  leading_text zero (x ∷ xs) c rest a l e = absurd (omega arith)
  leading_text (suc n) [] c rest a l e = cond-false (p c) (suc (leading p n rest)) 0 e
  leading_text (suc n) (x ∷ xs) c rest a l e =
      let k = and_parts (p x) (list_all p xs) a in
      cond-true (p x) (suc (leading p n (xs ++ c ∷ rest))) 0 k.0 ∙ ap suc (leading_text n xs c rest k.1 (omega arith) e)

-- ## A text and the `;` that ends it

pub ended_rest : (text rest : List ℕ) → ended text ++ rest ≡ text ++ 59 ∷ rest
ended_rest text rest = append_assoc text (59 ∷ []) rest

-- a `;` parts the bytes into a text and the rest
pub ended_there : (k : ℕ) (bytes : List ℕ) → ends_at bytes k ≡ true → bytes ≡ ended (take k bytes) ++ drop (suc k) bytes
ended_there k [] e = absurd (omega (arith, eqb-true (get_or [] k 0) 59 e))
ended_there zero (b ∷ bytes) e = let h = eqb-true b 59 e in λ i. h i ∷ bytes
ended_there (suc k) (b ∷ bytes) e = ap (λ l. b ∷ l) (ended_there k bytes e)

pub ended_long : (k : ℕ) (bytes : List ℕ) → ends_at bytes k ≡ true → k < length bytes
ended_long k [] e = absurd (omega (arith, eqb-true (get_or [] k 0) 59 e))
ended_long zero (b ∷ bytes) e = omega arith
ended_long (suc k) (b ∷ bytes) e = let h = ended_long k bytes e in omega arith

-- and is found again behind the text, with the text before it and the rest behind
pub ended_at : (text rest : List ℕ) → ends_at (ended text ++ rest) (length text) ≡ true
ended_at [] rest = refl
ended_at (x ∷ text) rest = ended_at text rest

pub ended_before : (text rest : List ℕ) → take (length text) (ended text ++ rest) ≡ text
ended_before [] rest = refl
ended_before (x ∷ text) rest = ap (λ l. x ∷ l) (ended_before text rest)

pub ended_behind : (text rest : List ℕ) → drop (suc (length text)) (ended text ++ rest) ≡ rest
ended_behind [] rest = refl
ended_behind (x ∷ text) rest = ended_behind text rest

-- texts without `;` are told apart by the `;` that ends them
abbrev pub unended : ℕ → Bool
unended b = not (eqb b 59)

pub ended_apart : (s t x y : List ℕ) → list_all unended s ≡ true → list_all unended t ≡ true → s ++ 59 ∷ x ≡ t ++ 59 ∷ y → (s ≡ t) × (x ≡ y)
ended_apart [] [] x y p q e = (refl, ap (drop 1) e)
ended_apart [] (b ∷ t) x y p q e = let h = ap (λ l. get_or l 0 0) e in absurd (true≢false (sym (and_parts (unended b) (list_all unended t) q).0 ∙ ap unended (sym h)))
ended_apart (a ∷ s) [] x y p q e = let h = ap (λ l. get_or l 0 0) e in absurd (true≢false (sym (and_parts (unended a) (list_all unended s) p).0 ∙ ap unended h))
ended_apart (a ∷ s) (b ∷ t) x y p q e =
    let h = ap (λ l. get_or l 0 0) e in
    let k = ended_apart s t x y (and_parts (unended a) (list_all unended s) p).1 (and_parts (unended b) (list_all unended t) q).1 (ap (drop 1) e) in
    ((λ i. h i ∷ k.0 i), k.1)

-- ## A: the supply

pub supply_there : (bytes : List ℕ) → (is_supply (take 22 bytes) && ends_at bytes 22) ≡ true → (is_supply (take 22 bytes) ≡ true) × (bytes ≡ ended (take 22 bytes) ++ drop 23 bytes)
supply_there bytes h = let p = and_parts (is_supply (take 22 bytes)) (ends_at bytes 22) h in (p.0, ended_there 22 bytes p.1)

pub supply_passes : (s rest : List ℕ) → is_supply s ≡ true → (is_supply (take 22 (ended s ++ rest)) && ends_at (ended s ++ rest) 22) ≡ true
supply_passes s rest h =
    let long = eqb-true (length s) 22 (and_parts (eqb (length s) 22) (list_all code_byte s) h).0 in
    subst (λ n. (is_supply (take n (ended s ++ rest)) && ends_at (ended s ++ rest) n) ≡ true) long
    (and_from _ _ (ap is_supply (ended_before s rest) ∙ h) (ended_at s rest))

-- ## C, J and K: one digit

module _ (low high : ℕ) where
  pub one_digit_there : (bytes : List ℕ) → one_digit low high bytes ≡ true → (low ≤ get_or bytes 0 0 - 48) × (get_or bytes 0 0 - 48 ≤ high) × (bytes ≡ ended ((48 + (get_or bytes 0 0 - 48)) ∷ []) ++ drop 2 bytes)
  one_digit_there bytes h =
      let p = and_parts (between (48 + low) (48 + high) (get_or bytes 0 0)) (ends_at bytes 1) h in
      let w = within (48 + low) (48 + high) (get_or bytes 0 0) p.0 in
      (omega arith, omega arith, first bytes (omega arith) p.1)
    where
      first : (bs : List ℕ) → 48 ≤ get_or bs 0 0 → ends_at bs 1 ≡ true → bs ≡ ended ((48 + (get_or bs 0 0 - 48)) ∷ []) ++ drop 2 bs
      first bs l e = ended_there 1 bs e ∙ ap (λ text. ended text ++ drop 2 bs) (one bs l)
        where
          one : (cs : List ℕ) → 48 ≤ get_or cs 0 0 → take 1 cs ≡ (48 + (get_or cs 0 0 - 48)) ∷ []
          one [] m = absurd (omega arith)
          one (c ∷ cs) m = ap (λ d. d ∷ []) (omega arith)

  pub one_digit_passes : (v : ℕ) (rest : List ℕ) → low ≤ v → v ≤ high → one_digit low high (ended ((48 + v) ∷ []) ++ rest) ≡ true
  one_digit_passes v rest l h = and_from (between (48 + low) (48 + high) (48 + v)) true (and_from _ _ (le-leb (48 + low) (48 + v) (omega arith)) (le-leb (48 + v) (48 + high) (omega arith))) refl

-- ## D: the energy

-- `digit` and `number` tell digits and their number as the library does
pub numerals : IsNumeralModel (λ ds. list_all digit ds ≡ true) (number 0)
numerals = numerals_by_fold (λ ds. list_all digit ds ≡ true) tells number folds
  where
    tells : IsDigitsTest (λ ds. list_all digit ds ≡ true)
    tells = record {
      empty = refl;
      parts = λ c cs e. let k = and_parts (digit c) (list_all digit cs) e in (within 48 57 c k.0, k.1);
      more = λ c cs k e. and_from (digit c) (list_all digit cs) (and_from _ _ (le-leb 48 c k.0) (le-leb c 57 k.1)) e;
    }

    folds : FoldsDigits number
    folds = record { empty = λ n. refl; more = λ n c cs k. ap (λ m. number m cs) (omega arith) }

-- one to n digits, with no 0 before others, and what ends them
abbrev pub number_written : ℕ → List ℕ → Bool
number_written n bytes = let k = leading digit n bytes in leb 1 k && ends_at bytes k && (eqb k 1 || not (eqb (get_or bytes 0 0) 48))

-- digits with no 0 before others are what is written of their number
pub decimal_back : (ds : List ℕ) → list_all digit ds ≡ true → 0 < length ds → length ds ≤ 10 → (eqb (length ds) 1 || not (eqb (get_or ds 0 0) 48)) ≡ true → (number 0 ds ≤ 9999999999) × (decimal (number 0 ds) ≡ ds)
decimal_back ds h some short lead =
    let small = digits_value_short numerals ds 10 h short in
    (omega arith, decimal-digits_value numerals ds h some only (omega arith))
  where
    only : get_or ds 0 0 ≡ 48 → length ds ≡ 1
    only z = ⊎_elim (λ o. eqb-true (length ds) 1 o) (λ n. absurd (eqb-false (get_or ds 0 0) 48 (not-true (eqb (get_or ds 0 0) 48) n) z)) (or_cases (eqb (length ds) 1) (not (eqb (get_or ds 0 0) 48)) lead)

-- and what is written of a number has no 0 before others
pub decimal_lead : (n : ℕ) → n < 2 ^ 64 → (eqb (length (decimal n)) 1 || not (eqb (get_or (decimal n) 0 0) 48)) ≡ true
decimal_lead n small =
    ⊎_elim
    (λ l. let z : n ≡ 0 = omega arith in or_left _ _ (eq-eqb (length (decimal n)) 1 (ap (λ m. length (decimal m)) z ∙ ap length (decimal_digit 0 (omega arith)))))
    (λ g. let f = first_decimal n g small in or_right _ _ (not_from_false _ (ne_eqb (get_or (decimal n) 0 0) 48 (λ e. omega arith))))
    (cases_lt n 1)

pub energy_there : (bytes : List ℕ) → number_written 10 bytes ≡ true → (number 0 (take (leading digit 10 bytes) bytes) ≤ 9999999999) × (bytes ≡ ended (decimal (number 0 (take (leading digit 10 bytes) bytes))) ++ drop (suc (leading digit 10 bytes)) bytes)
energy_there bytes h =
    let k = leading digit 10 bytes in
    let p = and_parts (leb 1 k && ends_at bytes k) (eqb k 1 || not (eqb (get_or bytes 0 0) 48)) h in
    let q = and_parts (leb 1 k) (ends_at bytes k) p.0 in
    let some = leb-true 1 k q.0 in
    let most = leading_most digit 10 bytes in
    let short = ended_long k bytes q.1 in
    let long = length-take-le k bytes (omega arith) in
    let first = get_or-take k bytes 0 0 (omega arith) in
    let d = decimal_back (take k bytes) (leading_pass digit 10 bytes) (omega arith) (omega arith) ((λ i. eqb (long i) 1 || not (eqb (first i) 48)) ∙ p.1) in
    (d.0, ended_there k bytes q.1 ∙ ap (λ text. ended text ++ drop (suc k) bytes) (sym d.1))

pub energy_passes : (wh : ℕ) (rest : List ℕ) → wh ≤ 9999999999 → number_written 10 (ended (decimal wh) ++ rest) ≡ true
energy_passes wh rest l =
    let bytes = ended (decimal wh) ++ rest in
    let small : wh < 2 ^ 64 = omega arith in
    let some = decimal_nonempty wh small in
    let digits = digits_decimal numerals wh small in
    let short = length-decimal-le 10 wh (omega arith) (omega arith) small in
    let leads : leading digit 10 bytes ≡ length (decimal wh) = ap (leading digit 10) (ended_rest (decimal wh) rest) ∙ leading_text digit 10 (decimal wh) 59 rest digits short refl in
    let first : get_or bytes 0 0 ≡ get_or (decimal wh) 0 0 = ap (λ b. get_or b 0 0) (ended_rest (decimal wh) rest) ∙ get_or_append_left (decimal wh) (59 ∷ rest) 0 0 some in
    subst (λ k. (leb 1 k && ends_at bytes k && (eqb k 1 || not (eqb (get_or bytes 0 0) 48))) ≡ true) (sym leads)
    (and_from _ _ (and_from _ _ (le-leb 1 (length (decimal wh)) some) (ended_at (decimal wh) rest))
    ((λ i. eqb (length (decimal wh)) 1 || not (eqb (first i) 48)) ∙ decimal_lead wh small))

-- ## L: the invoice, and the line's end

abbrev pub invoice_written : List ℕ → Bool
invoice_written bytes = let k = leading visible 26 bytes in leb 1 k && ends_at bytes k && eqb (get_or bytes (suc k) 0) 10

pub last_rest : (text rest : List ℕ) → (text ++ 59 ∷ 10 ∷ []) ++ rest ≡ ended text ++ (10 ∷ rest)
last_rest text rest = append_assoc text (59 ∷ 10 ∷ []) rest ∙ sym (ended_rest text (10 ∷ rest))

pub invoice_there : (bytes : List ℕ) → invoice_written bytes ≡ true → (is_invoice (take (leading visible 26 bytes) bytes) ≡ true) × (bytes ≡ (take (leading visible 26 bytes) bytes ++ 59 ∷ 10 ∷ []) ++ drop (2 + leading visible 26 bytes) bytes)
invoice_there bytes h =
    let k = leading visible 26 bytes in
    let p = and_parts (leb 1 k && ends_at bytes k) (eqb (get_or bytes (suc k) 0) 10) h in
    let q = and_parts (leb 1 k) (ends_at bytes k) p.0 in
    let most = leading_most visible 26 bytes in
    let some = leb-true 1 k q.0 in
    let short = ended_long k bytes q.1 in
    let long = length-take-le k bytes (omega arith) in
    let ten = eqb-true (get_or bytes (suc k) 0) 10 p.1 in
    let inside : suc k < length bytes = ⊎_elim (λ l. l) (λ g. absurd (omega (arith, get_or_past bytes (suc k) 0 g))) (cases_lt (suc k) (length bytes)) in
    let two : suc (suc k) ≡ 2 + k = omega arith in
    let behind : drop (suc k) bytes ≡ 10 ∷ drop (2 + k) bytes = drop-cons bytes (suc k) 0 inside ∙ (λ i. ten i ∷ drop (two i) bytes) in (
      and_from _ _ (and_from _ _ (le-leb 1 (length (take k bytes)) (omega arith)) (le-leb (length (take k bytes)) 26 (omega arith))) (leading_pass visible 26 bytes),
      ended_there k bytes q.1 ∙ ap (λ l. ended (take k bytes) ++ l) behind ∙ sym (last_rest (take k bytes) (drop (2 + k) bytes)),
    )

pub invoice_passes : (text rest : List ℕ) → is_invoice text ≡ true → invoice_written ((text ++ 59 ∷ 10 ∷ []) ++ rest) ≡ true
invoice_passes text rest h =
    let p = and_parts (between 1 26 (length text)) (list_all visible text) h in
    let w = within 1 26 (length text) p.0 in
    let bytes = ended text ++ (10 ∷ rest) in
    let leads : leading visible 26 bytes ≡ length text = ap (leading visible 26) (ended_rest text (10 ∷ rest)) ∙ leading_text visible 26 text 59 (10 ∷ rest) p.1 w.1 refl in
    ap invoice_written (last_rest text rest)
    ∙ subst (λ k. (leb 1 k && ends_at bytes k && eqb (get_or bytes (suc k) 0) 10) ≡ true) (sym leads)
    (and_from _ _ (and_from _ _ (le-leb 1 (length text) w.0) (ended_at text (10 ∷ rest))) (ten text))
  where
    ten : (xs : List ℕ) → eqb (get_or (ended xs ++ (10 ∷ rest)) (suc (length xs)) 0) 10 ≡ true
    ten [] = refl
    ten (x ∷ xs) = ten xs

-- ## B and C: the label of the hour

pub places_front : (n : ℕ) (xs : List ℕ) → n ≤ length xs → xs ≡ first_places n (λ i. get_or xs i 0) ++ drop n xs
places_front zero xs h = refl
places_front (suc n) [] h = absurd (omega arith)
places_front (suc n) (x ∷ xs) h = ap (λ l. x ∷ l) (places_front n xs (omega arith))

-- a pair of digits is what is written of its number
pub pair_back : (bytes : List ℕ) (k : ℕ) → pair bytes k ≡ true → (pair_number bytes k < 100) × (two_digits (pair_number bytes k) ≡ get_or bytes k 0 ∷ get_or bytes (suc k) 0 ∷ [])
pair_back bytes k h =
    let p = and_parts (digit (get_or bytes k 0)) (digit (get_or bytes (suc k) 0)) h in
    let a = within 48 57 (get_or bytes k 0) p.0 in
    let b = within 48 57 (get_or bytes (suc k) 0) p.1 in
    let high : 48 + pair_number bytes k / 10 % 10 ≡ get_or bytes k 0 = omega arith in
    let low : 48 + pair_number bytes k % 10 ≡ get_or bytes (suc k) 0 = omega arith in
    (omega arith, λ i. high i ∷ low i ∷ [])

pub digit_passes : (n : ℕ) → digit (48 + n % 10) ≡ true
digit_passes n = and_from _ _ (le-leb 48 (48 + n % 10) (omega arith)) (le-leb (48 + n % 10) 57 (omega arith))

pub pair_passes : (n : ℕ) → (digit (48 + n / 10 % 10) && digit (48 + n % 10)) ≡ true
pair_passes n = and_from _ _ (digit_passes (n / 10)) (digit_passes n)

pub four_back : (c n : ℕ) → n < 100 → four_digits (100 * c + n) ≡ two_digits c ++ two_digits n
four_back c n l =
    let a : (100 * c + n) / 100 ≡ c = omega arith in
    let b : (100 * c + n) / 10 % 10 ≡ n / 10 % 10 = omega arith in
    let d : (100 * c + n) % 10 ≡ n % 10 = omega arith in
    λ i. two_digits (a i) ++ ((48 + b i) ∷ (48 + d i) ∷ [])

pub clock_there : (b : List ℕ) (f : ℕ) → clock_written b ≡ true → b ≡ ended (label_text (label_under b f)) ++ drop 17 b
clock_there b f h =
    let t = all_pass (pair b 0) (pair b 2 ∷ eqb (get_or b 4 0) 47 ∷ pair b 5 ∷ eqb (get_or b 7 0) 47 ∷ pair b 8 ∷ eqb (get_or b 10 0) 32 ∷ pair b 11 ∷ eqb (get_or b 13 0) 58 ∷ pair b 14 ∷ ends_at b 16 ∷ []) h in
    let c = pair_back b 0 t.0 in
    let y = pair_back b 2 t.1.0 in
    let s4 = eqb-true (get_or b 4 0) 47 t.1.1.0 in
    let m = pair_back b 5 t.1.1.1.0 in
    let s7 = eqb-true (get_or b 7 0) 47 t.1.1.1.1.0 in
    let d = pair_back b 8 t.1.1.1.1.1.0 in
    let s10 = eqb-true (get_or b 10 0) 32 t.1.1.1.1.1.1.0 in
    let hh = pair_back b 11 t.1.1.1.1.1.1.1.0 in
    let s13 = eqb-true (get_or b 13 0) 58 t.1.1.1.1.1.1.1.1.0 in
    let mm = pair_back b 14 t.1.1.1.1.1.1.1.1.1.0 in
    let end = t.1.1.1.1.1.1.1.1.1.1.0 in
    let s16 = eqb-true (get_or b 16 0) 59 end in
    let years = four_back (pair_number b 0) (pair_number b 2) y.0 in
    places_front 17 b (ended_long 16 b end)
    ∙ sym
    ((λ i. ended ((years i ++ 47 ∷ (two_digits (pair_number b 5) ++ 47 ∷ two_digits (pair_number b 8))) ++ 32 ∷ (two_digits (pair_number b 11) ++ 58 ∷ two_digits (pair_number b 14))) ++ drop 17 b)
    ∙ (λ i. (((c.1 i ++ y.1 i) ++ sym s4 i ∷ (m.1 i ++ sym s7 i ∷ d.1 i)) ++ sym s10 i ∷ (hh.1 i ++ sym s13 i ∷ mm.1 i)) ++ sym s16 i ∷ drop 17 b))

-- and two and four digits are read back
pub two_read : (n : ℕ) → n < 100 → 10 * (48 + n / 10 % 10 - 48) + (48 + n % 10 - 48) ≡ n
two_read n l = omega arith

pub four_read : (n : ℕ) → n < 10000 → 100 * (10 * (48 + n / 100 / 10 % 10 - 48) + (48 + n / 100 % 10 - 48)) + (10 * (48 + n / 10 % 10 - 48) + (48 + n % 10 - 48)) ≡ n
four_read n l =
    let high = two_read (n / 100) (omega arith) in
    let low = two_read (n % 100) (omega arith) in
    let tens : n / 10 % 10 ≡ n % 100 / 10 % 10 = omega arith in
    let ones : n % 10 ≡ n % 100 % 10 = omega arith in
    omega arith

-- the label is read back from its text
pub label_back : (h : ℕ) (l : Label) (rest : List ℕ) → IsLabel h l → label_under (ended (label_text l) ++ rest) l.flag ≡ l
label_back h l rest is =
    let s = real_short l.date is.date in
    let hour = is.below_24 in
    let full = is.full in
    let y = four_read l.date.year s.year in
    let m = two_read l.date.month s.month in
    let d = two_read l.date.day s.day in
    let hh = two_read l.hour (omega arith) in
    let mm = two_read l.minute (omega arith) in
    let z : 0 ≡ l.second = sym full.1 in
    λ i. record { date = record { year = y i; month = m i; day = d i }; hour = hh i; minute = mm i; second = z i; flag = l.flag }

pub clock_passes : (l : Label) (rest : List ℕ) → clock_written (ended (label_text l) ++ rest) ≡ true
clock_passes l rest =
    let b = ended (label_text l) ++ rest in
    passes_all (pair b 0) (pair b 2 ∷ true ∷ pair b 5 ∷ true ∷ pair b 8 ∷ true ∷ pair b 11 ∷ true ∷ pair b 14 ∷ true ∷ [])
    (pair_passes (l.date.year / 100), (pair_passes l.date.year, (refl, (pair_passes l.date.month, (refl, (pair_passes l.date.day, (refl, (pair_passes l.hour, (refl, (pair_passes l.minute, (refl, tt)))))))))))

pub label_passes : (h : ℕ) (l : Label) (rest : List ℕ) → IsLabel h l → (clock_written (ended (label_text l) ++ rest) && (is_label (label_under (ended (label_text l) ++ rest) 0) || is_label (label_under (ended (label_text l) ++ rest) 1))) ≡ true
label_passes h l rest is =
    let b = ended (label_text l) ++ rest in
    let here : is_label (label_under b l.flag) ≡ true = ap is_label (label_back h l rest is) ∙ (label_from h l is).0 in
    and_from (clock_written b) _ (clock_passes l rest) (flagged l.flag (λ f. is_label (label_under b f)) (let s = is.season in let t = flag_small h in omega arith) here)
  where
    flagged : (f : ℕ) (test : ℕ → Bool) → f ≤ 1 → test f ≡ true → (test 0 || test 1) ≡ true
    flagged f test l e =
        ⊎_elim (λ m. or_left (test 0) (test 1) (let z : 0 ≡ f = omega arith in ap test z ∙ e))
        (λ g. or_right (test 0) (test 1) (let z : 1 ≡ f = omega arith in ap test z ∙ e))
        (cases_lt f 1)

-- no text of a label has a `;`
pub label_unended : (l : Label) → list_all unended (label_text l) ≡ true
label_unended l i =
    pair_unended (l.date.year / 100) (pair_unended l.date.year (pair_unended l.date.month (pair_unended l.date.day (pair_unended l.hour (pair_unended l.minute refl))))) i
  where
    pair_unended : (n : ℕ) {rest : Bool} → rest ≡ true → (unended (48 + n / 10 % 10) && (unended (48 + n % 10) && rest)) ≡ true
    pair_unended n e = and_from _ _ (not_from_false _ (ne_eqb (48 + n / 10 % 10) 59 (λ q. omega arith))) (and_from _ _ (not_from_false _ (ne_eqb (48 + n % 10) 59 (λ q. omega arith))) e)
