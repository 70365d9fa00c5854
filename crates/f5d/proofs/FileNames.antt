-- The steps of reading a name, as the program takes them.
use Rattle.std.proofs.Common.{◌≡◌, ℕ, ◌+◌, ◌*◌, min, Bool, true, cond, ◌&&◌, eqb, List, [], ◌∷◌, ◌++◌, length, get_or, take, drop, Some, None, codes, IsUtf8, Option, sym, refl, ap, ◌∙◌, subst, arith}
use lib.Utf8.{encode}
use Rattle.std.proofs.lemmas.List.{take-append-drop}
use Rattle.std.proofs.lemmas.Bool.{cond_both, cond-true}
use Rattle.official_time.specs.Dates.{is_date, on}
use Rattle.official_time.specs.declared.date.Date.{Date}
use Rattle.vocabulary.specs.Codes.{is_participant}
use Rattle.f5d.specs.Names.{IsName, Name, named_behind, read_name, RightName, version_written, word_text}
use Rattle.f5d.specs.Reading.{number, pair, pair_number}
use Rattle.f5d.specs.declared.name.Word.{Word}
use Rattle.f5d.specs.declared.name.Word.TheVariants.{F5d, Rf5d}
use Rattle.f5d.proofs.Fields.{all_pass, passes_all}
use Rattle.f5d.proofs.Names.{name_read, name_right}

-- ## The word

pub word_utf8 : (w : Word) → IsUtf8 (word_text w)
unfolding encode
word_utf8 F5d = (codes "F5D", (refl, refl))
word_utf8 Rf5d = (codes "RF5D", (refl, refl))

-- where the program takes the word to end
abbrev word_end : List ℕ → ℕ
word_end text = cond (eqb (get_or text 3 0) 95) 3 (min 4 (length text))

word_first : (w : Word) (rest : List ℕ) → read_name (word_text w ++ rest) ≡ named_behind w rest
unfolding read_name
word_first F5d rest = refl
word_first Rf5d rest = refl

-- the word is read, and the reading goes on behind it
pub word_on : (text : List ℕ) (end : ℕ) (w : Word) → word_text w ≡ take end text → named_behind w (drop end text) ≡ read_name text
word_on text end w e = sym (word_first w (drop end text)) ∙ ap read_name (ap (λ t. t ++ drop end text) e ∙ take-append-drop end text)

-- a name begins with its word, and that ends there
word_there : (w : Word) (rest : List ℕ) → word_text w ≡ take (word_end (word_text w ++ 95 ∷ rest)) (word_text w ++ 95 ∷ rest)
word_there F5d rest = refl
word_there Rf5d rest = let t = codes "RF5D" ++ 95 ∷ rest in let four : min 4 (length t) ≡ 4 = omega arith in ap (λ k. take k t) (sym four)

-- no word is there, and the text is no name
pub word_off : (text : List ℕ) (end : ℕ) → end ≡ word_end text → ((w : Word) → word_text w ≡ take end text → ⊥) → None ≡ read_name text
word_off text end e none = by (read_name text) (name_right text)
  where
    by : (x : Option Name) → RightName text x → None ≡ x
    by None h = refl
    by (Some n) h = absurd (none n.word (subst (λ t. word_text n.word ≡ take (word_end t) t) h.1 (word_there n.word _) ∙ ap (λ k. take k text) (sym e)))

-- ## The version

-- ## What stands behind the word

abbrev pub date_there : List ℕ → Date
date_there b = on (100 * pair_number b 11 + pair_number b 13) (pair_number b 15) (pair_number b 17)

abbrev pub parted : List ℕ → Bool
parted b = eqb (get_or b 0 0) 95 && eqb (get_or b 5 0) 95 && eqb (get_or b 10 0) 95 && eqb (get_or b 19 0) 46

abbrev pub dated : List ℕ → Bool
dated b = pair b 11 && pair b 13 && pair b 15 && pair b 17

abbrev behind_written : List ℕ → Bool
behind_written b = eqb (get_or b 0 0) 95 && is_participant (take 4 (drop 1 b)) && eqb (get_or b 5 0) 95 && is_participant (take 4 (drop 6 b)) && eqb (get_or b 10 0) 95 && (pair b 11 && pair b 13 && pair b 15 && pair b 17 && is_date (date_there b)) && eqb (get_or b 19 0) 46 && version_written (drop 20 b)

-- all that is asked of it
pub record Behind (b : List ℕ) : Type 0 where
  pub parts : parted b ≡ true
  pub digits : dated b ≡ true
  pub distributor : is_participant (take 4 (drop 1 b)) ≡ true
  pub retailer : is_participant (take 4 (drop 6 b)) ≡ true
  pub date : is_date (date_there b) ≡ true
  pub version : version_written (drop 20 b) ≡ true

abbrev date_tests : List ℕ → List Bool
date_tests b = pair b 13 ∷ pair b 15 ∷ pair b 17 ∷ is_date (date_there b) ∷ []

abbrev behind_tests : List ℕ → List Bool
behind_tests b =
    is_participant (take 4 (drop 1 b))
    ∷ eqb (get_or b 5 0) 95
    ∷ is_participant (take 4 (drop 6 b))
    ∷ eqb (get_or b 10 0) 95
    ∷ (pair b 11 && pair b 13 && pair b 15 && pair b 17 && is_date (date_there b))
    ∷ eqb (get_or b 19 0) 46
    ∷ version_written (drop 20 b)
    ∷ []

abbrev parted_tests : List ℕ → List Bool
parted_tests b = eqb (get_or b 5 0) 95 ∷ eqb (get_or b 10 0) 95 ∷ eqb (get_or b 19 0) 46 ∷ []

abbrev dated_tests : List ℕ → List Bool
dated_tests b = pair b 13 ∷ pair b 15 ∷ pair b 17 ∷ []

pub record Pairs (b : List ℕ) : Type 0 where
  pub century : pair b 11 ≡ true
  pub year : pair b 13 ≡ true
  pub month : pair b 15 ≡ true
  pub day : pair b 17 ≡ true

pub dated_pairs : (b : List ℕ) → dated b ≡ true → Pairs b
dated_pairs b h =
    let d = all_pass (pair b 11) (dated_tests b) h in
    record { century = d.0; year = d.1.0; month = d.1.1.0; day = d.1.1.1.0 }

asked : (b : List ℕ) → behind_written b ≡ true → Behind b
asked b h =
    let t = all_pass (eqb (get_or b 0 0) 95) (behind_tests b) h in
    let u = t.1.1.1.1 in
    let d = all_pass (pair b 11) (date_tests b) u.1.0 in
    record {
      parts = passes_all (eqb (get_or b 0 0) 95) (parted_tests b) (t.0, (t.1.1.0, (u.0, (u.1.1.0, tt))));
      digits = passes_all (pair b 11) (dated_tests b) (d.0, (d.1.0, (d.1.1.0, (d.1.1.1.0, tt))));
      distributor = t.1.0;
      retailer = t.1.1.1.0;
      date = d.1.1.1.1.0;
      version = u.1.1.1.0;
    }

told : (b : List ℕ) → Behind b → behind_written b ≡ true
told b h =
    let p = all_pass (eqb (get_or b 0 0) 95) (parted_tests b) h.parts in
    let d = dated_pairs b h.digits in
    let dates = passes_all (pair b 11) (date_tests b) (d.century, (d.year, (d.month, (d.day, (h.date, tt))))) in
    passes_all (eqb (get_or b 0 0) 95) (behind_tests b) (p.0, (h.distributor, (p.1.0, (h.retailer, (p.1.1.0, (dates, (p.1.1.1.0, (h.version, tt))))))))

abbrev name_there : Word → List ℕ → Name
name_there word b = record { word = word; distributor = take 4 (drop 1 b); retailer = take 4 (drop 6 b); date = date_there b; version = number 0 (drop 20 b) }

-- something that is asked is not there, and it is no name
pub behind_off : (word : Word) (b : List ℕ) → (Behind b → ⊥) → None ≡ named_behind word b
behind_off word b lacks = cond_both (behind_written b) (Some (name_there word b)) None (λ x. None ≡ x) (λ yes. absurd (lacks (asked b yes))) (λ _. refl)

-- all is there, and it is the name that is told so
pub behind_on : (b : List ℕ) (n : Name) → Behind b → n.distributor ≡ take 4 (drop 1 b) → n.retailer ≡ take 4 (drop 6 b) → n.date ≡ date_there b → n.version ≡ number 0 (drop 20 b) → Some n ≡ named_behind n.word b
behind_on b n h distributor retailer date version =
    (λ i. Some (record { word = n.word; distributor = distributor i; retailer = retailer i; date = date i; version = version i }))
    ∙ sym (cond-true (behind_written b) (Some (name_there n.word b)) None (told b h))

-- ## The whole name

pub only_name : (text : List ℕ) (n m : Name) → Some n ≡ read_name text → IsName m text → m ≡ n
only_name text n m e h = sym (ap (λ o. elim o [ Some x ↦ x | None ↦ n ]) (e ∙ name_read m text h))
