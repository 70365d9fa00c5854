-- A name is read rightly, and in one way only.
use Rattle.std.proofs.Common.{◌≡◌, ℕ, zero, suc, ◌+◌, ◌*◌, ◌/◌, ◌^◌, ◌<◌, ◌≤◌, Bool, true, cond, not, ◌&&◌, ◌||◌, eqb, leb, List, [], ◌∷◌, ◌++◌, length, get_or, take, drop, Some, None, codes, decimal, Option, sym, refl, ap, ◌∙◌, subst, ⊎_elim, arith}
use lib.Seq.{take-length}
use Rattle.std.proofs.lemmas.Fmt.{decimal_nonempty, digits_decimal, length-decimal-le, digits_value-decimal}
use Rattle.std.proofs.lemmas.List.{get_or_past, take-append-drop}
use Rattle.std.proofs.lemmas.Bool.{and_parts, cases_lt, cond_both, cond-true, eq-eqb, eqb-true, le-leb, leb-true}
use Rattle.official_time.specs.Dates.{is_date, on}
use Rattle.official_time.specs.Texts.{two_digits}
use Rattle.official_time.specs.declared.date.Date.{Date}
use Rattle.official_time.proofs.Texts.{by_places, first_places, real_short}
use Rattle.vocabulary.specs.Codes.{code_byte, is_participant}
use Rattle.std.specs.List.{list_all}
use Rattle.f5d.specs.Records.{same}
use Rattle.f5d.specs.Reading.{leading, number, pair, pair_number}
use Rattle.vocabulary.specs.Codes.{digit}
use Rattle.f5d.specs.Names.{date_digits, is_name, IsName, Name, NameReading, name_text, named_behind, read_name, RightName, version_written, word_text}
use Rattle.f5d.specs.declared.name.Word.{Word}
use Rattle.f5d.specs.declared.name.Word.TheVariants.{F5d, Rf5d}
use Rattle.f5d.proofs.Fields.{all_pass, decimal_back, decimal_lead, four_back, four_read, leading_pass, numerals, pair_back, pair_passes, passes_all, places_front, two_read}
use Rattle.f5d.proofs.Turns.{same_true}

-- ## The version

leading_all : (p : ℕ → Bool) (n : ℕ) (xs : List ℕ) → list_all p xs ≡ true → length xs ≤ n → leading p n xs ≡ length xs
leading_all p zero [] h l = refl
leading_all p zero (x ∷ xs) h l = absurd (omega arith)
leading_all p (suc n) [] h l = refl
leading_all p (suc n) (x ∷ xs) h l =
    let k = and_parts (p x) (list_all p xs) h in
    cond-true (p x) (suc (leading p n xs)) 0 k.0 ∙ ap suc (leading_all p n xs k.1 (omega arith))

abbrev version_tests : List ℕ → List Bool
version_tests b = leb (length b) 3 ∷ eqb (leading digit 3 b) (length b) ∷ (eqb (length b) 1 || not (eqb (get_or b 0 0) 48)) ∷ leb (number 0 b) 255 ∷ []

version_there : (b : List ℕ) → version_written b ≡ true → (number 0 b ≤ 255) × (decimal (number 0 b) ≡ b)
version_there b h =
    let t = all_pass (leb 1 (length b)) (version_tests b) h in
    let some = leb-true 1 (length b) t.0 in
    let short = leb-true (length b) 3 t.1.0 in
    let leads = eqb-true (leading digit 3 b) (length b) t.1.1.0 in
    let small = leb-true (number 0 b) 255 t.1.1.1.1.0 in
    let digits : list_all digit b ≡ true = ap (list_all digit) (sym (ap (λ k. take k b) leads ∙ take-length b)) ∙ leading_pass digit 3 b in
    (small, (decimal_back b digits some (omega arith) t.1.1.1.0).1)

version_passes : (v : ℕ) → v ≤ 255 → version_written (decimal v) ≡ true
version_passes v l =
    let b = decimal v in
    let small : v < 2 ^ 64 = omega arith in
    let digits = digits_decimal numerals v small in
    let short = length-decimal-le 3 v (omega arith) (omega arith) small in
    let is = digits_value-decimal numerals v small in
    passes_all (leb 1 (length b)) (version_tests b)
    (le-leb 1 (length b) (decimal_nonempty v small), (le-leb (length b) 3 short, (eq-eqb (leading digit 3 b) (length b) (leading_all digit 3 b digits short), (decimal_lead v small, (le-leb (number 0 b) 255 (omega arith), tt)))))

-- ## What stands behind the word

abbrev behind_text : Name → List ℕ
behind_text n = 95 ∷ (n.distributor ++ 95 ∷ (n.retailer ++ 95 ∷ (date_digits n.date ++ 46 ∷ decimal n.version)))

abbrev date_there : List ℕ → Date
date_there b = on (100 * pair_number b 11 + pair_number b 13) (pair_number b 15) (pair_number b 17)

abbrev name_there : Word → List ℕ → Name
name_there word b = record { word = word; distributor = take 4 (drop 1 b); retailer = take 4 (drop 6 b); date = date_there b; version = number 0 (drop 20 b) }

abbrev date_tests : List ℕ → List Bool
date_tests b = pair b 13 ∷ pair b 15 ∷ pair b 17 ∷ is_date (date_there b) ∷ []

abbrev behind_tests : List ℕ → List Bool
behind_tests b =
    is_participant (take 4 (drop 1 b))
    ∷ eqb (get_or b 5 0) 95
    ∷ is_participant (take 4 (drop 6 b))
    ∷ eqb (get_or b 10 0) 95
    ∷ (pair b 11 && pair b 13 && pair b 15 && pair b 17 && is_date (date_there b))
    ∷ eqb (get_or b 19 0) 46
    ∷ version_written (drop 20 b)
    ∷ []

abbrev behind_written : List ℕ → Bool
behind_written b = eqb (get_or b 0 0) 95 && is_participant (take 4 (drop 1 b)) && eqb (get_or b 5 0) 95 && is_participant (take 4 (drop 6 b)) && eqb (get_or b 10 0) 95 && (pair b 11 && pair b 13 && pair b 15 && pair b 17 && is_date (date_there b)) && eqb (get_or b 19 0) 46 && version_written (drop 20 b)

-- twenty places, and the version behind them
places_there : (word : Word) (x : ℕ → ℕ) (v : List ℕ) → behind_written (first_places 20 x ++ v) ≡ true → (is_name (name_there word (first_places 20 x ++ v)) ≡ true) × (behind_text (name_there word (first_places 20 x ++ v)) ≡ first_places 20 x ++ v)
places_there word x v h =
    let b = first_places 20 x ++ v in
    let t = all_pass (eqb (x 0) 95) (behind_tests b) h in
    let u = t.1.1.1.1 in
    let d = all_pass (pair b 11) (date_tests b) u.1.0 in
    let s0 = eqb-true (x 0) 95 t.0 in
    let s5 = eqb-true (x 5) 95 t.1.1.0 in
    let s10 = eqb-true (x 10) 95 u.0 in
    let s19 = eqb-true (x 19) 46 u.1.1.0 in
    let c = pair_back b 11 d.0 in
    let y = pair_back b 13 d.1.0 in
    let m = pair_back b 15 d.1.1.0 in
    let dd = pair_back b 17 d.1.1.1.0 in
    let w = version_there v u.1.1.1.0 in
    let years = four_back (pair_number b 11) (pair_number b 13) y.0 in (
      passes_all (is_participant (take 4 (drop 1 b))) (is_participant (take 4 (drop 6 b)) ∷ is_date (date_there b) ∷ leb (number 0 v) 255 ∷ [])
          (t.1.0, (t.1.1.1.0, (d.1.1.1.1.0, (le-leb (number 0 v) 255 w.0, tt)))),
      (λ i. 95 ∷ (take 4 (drop 1 b) ++ 95 ∷ (take 4 (drop 6 b) ++ 95 ∷ ((years i ++ (two_digits (pair_number b 15) ++ two_digits (pair_number b 17))) ++ 46 ∷ decimal (number 0 v)))))
          ∙ (λ i. sym s0 i ∷ (take 4 (drop 1 b) ++ sym s5 i ∷ (take 4 (drop 6 b) ++ sym s10 i ∷ (((c.1 i ++ y.1 i) ++ (m.1 i ++ dd.1 i)) ++ sym s19 i ∷ w.1 i)))),
    )

behind_there : (word : Word) (b : List ℕ) → behind_written b ≡ true → (is_name (name_there word b) ≡ true) × (behind_text (name_there word b) ≡ b)
behind_there word b h =
    let t = all_pass (eqb (get_or b 0 0) 95) (behind_tests b) h in
    let s19 = eqb-true (get_or b 19 0) 46 t.1.1.1.1.1.1.0 in
    let long : 20 ≤ length b = ⊎_elim (λ l. l) (λ g. absurd (omega (arith, get_or_past b 19 0 g))) (cases_lt 19 (length b)) in
    let e = places_front 20 b long in
    subst (λ l. (is_name (name_there word l) ≡ true) × (behind_text (name_there word l) ≡ l)) (sym e)
    (places_there word (λ i. get_or b i 0) (drop 20 b) (ap behind_written (sym e) ∙ h))

-- two codes of four bytes, a date and a version are read back
abbrev four : (ℕ → ℕ) → List ℕ
four x = first_places 4 x

places_back : (word : Word) (x y : ℕ → ℕ) (d : Date) (v : ℕ) → is_participant (four x) ≡ true → is_participant (four y) ≡ true → is_date d ≡ true → v ≤ 255 → named_behind word (behind_text (record { word = word; distributor = four x; retailer = four y; date = d; version = v })) ≡ Some (record { word = word; distributor = four x; retailer = four y; date = d; version = v })
places_back word x y d v p q is small =
    let n : Name = record { word = word; distributor = four x; retailer = four y; date = d; version = v } in
    let b = behind_text n in
    let s = real_short d is in
    let years = four_read d.year s.year in
    let months = two_read d.month s.month in
    let days = two_read d.day s.day in
    let dates : date_there b ≡ d = λ i. record { year = years i; month = months i; day = days i } in
    let versions : number 0 (decimal v) ≡ v = digits_value-decimal numerals v (omega arith) in
    let dated = passes_all (pair b 11) (date_tests b) (pair_passes (d.year / 100), (pair_passes d.year, (pair_passes d.month, (pair_passes d.day, (ap is_date dates ∙ is, tt))))) in
    cond-true (behind_written b) (Some (name_there word b)) None
    (passes_all true (behind_tests b) (refl, (p, (refl, (q, (refl, (dated, (refl, (version_passes v small, tt)))))))))
    ∙ (λ i. Some (record { word = word; distributor = four x; retailer = four y; date = dates i; version = versions i }))

behind_back : (n : Name) → is_name n ≡ true → named_behind n.word (behind_text n) ≡ Some n
behind_back n h =
    let t = all_pass (is_participant n.distributor) (is_participant n.retailer ∷ is_date n.date ∷ leb n.version 255 ∷ []) h in
    let a = by_places 4 n.distributor (long n.distributor t.0) in
    let b = by_places 4 n.retailer (long n.retailer t.1.0) in
    subst (λ m. named_behind n.word (behind_text m) ≡ Some m) {y = n} (λ i. record { word = n.word; distributor = sym a i; retailer = sym b i; date = n.date; version = n.version })
    (places_back n.word (λ i. get_or n.distributor i 0) (λ i. get_or n.retailer i 0) n.date n.version (ap is_participant (sym a) ∙ t.0) (ap is_participant (sym b) ∙ t.1.0) t.1.1.0 (leb-true n.version 255 t.1.1.1.0))
  where
    long : (s : List ℕ) → is_participant s ≡ true → length s ≡ 4
    long s p = eqb-true (length s) 4 (and_parts (eqb (length s) 4) (list_all code_byte s) p).0

-- ## The whole name

-- a name is read back
pub name_back : (n : Name) → is_name n ≡ true → read_name (name_text n) ≡ Some n
unfolding read_name
name_back n h = behind n.word ∙ behind_back n h
  where
    behind : (word : Word) → read_name (word_text word ++ behind_text n) ≡ named_behind word (behind_text n)
    behind F5d = refl
    behind Rf5d = refl

abbrev Found : List ℕ → Option Name → Type 0
Found bytes None = Unit {0}
Found bytes (Some n) = IsName n bytes

found_behind : (word : Word) (k : ℕ) (bytes : List ℕ) → take k bytes ≡ word_text word → Found bytes (named_behind word (drop k bytes))
found_behind word k bytes e =
    let b = drop k bytes in
    cond_both (behind_written b) (Some (name_there word b)) None (Found bytes)
    (λ passed. let t = behind_there word b passed in (t.0, (λ i. sym e i ++ t.1 i) ∙ take-append-drop k bytes))
    (λ failed. tt)

name_found : (bytes : List ℕ) → Found bytes (read_name bytes)
unfolding read_name
name_found bytes =
    cond_both (same (take 3 bytes) (codes "F5D")) (named_behind F5d (drop 3 bytes)) (cond (same (take 4 bytes) (codes "RF5D")) (named_behind Rf5d (drop 4 bytes)) None) (Found bytes)
    (λ f. found_behind F5d 3 bytes (same_true (take 3 bytes) (codes "F5D") f))
    (λ _. cond_both (same (take 4 bytes) (codes "RF5D")) (named_behind Rf5d (drop 4 bytes)) None (Found bytes) (λ f. found_behind Rf5d 4 bytes (same_true (take 4 bytes) (codes "RF5D") f)) (λ _. tt))

pub name_read : (n : Name) (bytes : List ℕ) → IsName n bytes → read_name bytes ≡ Some n
name_read n bytes h = ap read_name (sym h.1) ∙ name_back n h.0

pub name_right : (bytes : List ℕ) → RightName bytes (read_name bytes)
name_right bytes = by (read_name bytes) refl (name_found bytes)
  where
    by : (x : Option Name) → read_name bytes ≡ x → Found bytes x → RightName bytes x
    by None e f = λ n h. let r = name_read n bytes h in let z : ◌≡◌ {A = ℕ} 0 1 = cc in omega arith
    by (Some n) e f = f

pub name_reading : NameReading
name_reading = record { right = name_right; only = only }
  where
    only : (bytes : List ℕ) (x : Option Name) → RightName bytes x → x ≡ read_name bytes
    only bytes None h = by (read_name bytes) (name_found bytes)
      where
        by : (x : Option Name) → Found bytes x → None ≡ x
        by None f = refl
        by (Some n) f = absurd (h n f)
    only bytes (Some n) h = sym (name_read n bytes h)
