-- The steps of reading a line, as the program takes them.
use Rattle.std.proofs.Common.{◌≡◌, ℕ, suc, ◌+◌, ◌-◌, ◌≤◌, Bool, true, false, cond, ◌&&◌, ◌||◌, eqb, leb, ◌⊎◌, List, length, get_or, take, drop, sym, refl, ap, ◌∙◌, inl, inr, ⊎_elim, arith}
use borrow.Author.Tests.{clash}
use Rattle.std.proofs.lemmas.List.{drop-drop, get_or-drop}
use Rattle.std.proofs.lemmas.Slice.{between_to_end}
use Rattle.std.proofs.lemmas.Bool.{and_from, and_parts, cases_eq}
use Rattle.std.proofs.lemmas.Bool.Decides.{nat_tests}
use Rattle.official_time.specs.Hours.{is_label, meant}
use Rattle.vocabulary.specs.Codes.{is_invoice, is_supply, visible}
use Rattle.vocabulary.specs.Ranges.{between}
use Rattle.f5d.specs.Reading.{bad, clock_written, ends_at, good, label_under, leading, LineRead, number, one_digit, read_empty, read_energy, read_firmness, read_flag, read_invoice, read_label, read_line, read_method}
use Rattle.vocabulary.specs.Codes.{digit}
use Rattle.f5d.specs.Records.{Record}
use Rattle.f5d.specs.Told.{clock_right, energy_right, flag_right, flag_written, invoice_right}
use Rattle.f5d.proofs.Leading.{invoice_leading}

-- a digit at a place
pub one_digit_at : (low high place : ℕ) (b : List ℕ) → one_digit low high (drop place b) ≡ (between (48 + low) (48 + high) (get_or b place 0) && ends_at b (place + 1))
one_digit_at low high place b =
    let here : get_or (drop place b) 0 0 ≡ get_or b place 0 = get_or-drop place b 0 0 ∙ ap (λ k. get_or b k 0) (omega arith) in
    let next : get_or (drop place b) 1 0 ≡ get_or b (place + 1) 0 = get_or-drop place b 1 0 in
    λ i. between (48 + low) (48 + high) (here i) && eqb (next i) 59

-- a flag is 0 or 1
pub flag_two : (b : List ℕ) → one_digit 0 1 (drop 17 b) ≡ true → (flag_written b ≡ 0) ⊎ (flag_written b ≡ 1)
flag_two b e =
    let range = (and_parts (between 48 49 (get_or b 17 0)) (ends_at b 18) (sym (one_digit_at 0 1 17 b) ∙ e)).0 in
    ⊎_elim inl (λ n. inr (grind (arith, nat_tests))) (cases_eq (flag_written b) 0)

-- an hour under the flag that is written is an hour under one of the two
pub flagged_clock : (b : List ℕ) → flag_right b ≡ true → clock_right b ≡ true
flagged_clock b e =
    let parts = and_parts (one_digit 0 1 (drop 17 b)) (is_label (label_under b (flag_written b))) e in
    ⊎_elim (λ z. ap (λ x. x || is_label (label_under b 1)) (ap (λ f. is_label (label_under b f)) (sym z) ∙ parts.1))
    (λ z. or_second (is_label (label_under b 0)) (is_label (label_under b 1)) (ap (λ f. is_label (label_under b f)) (sym z) ∙ parts.1))
    (flag_two b parts.0)
  where
    or_second : (x y : Bool) → y ≡ true → (x || y) ≡ true
    or_second true y h = refl
    or_second false y h = h

lost : (w r f : Bool) (x : LineRead) → w ≡ true → f ≡ false → bad (cond r 2 1) ≡ cond (w && r) (cond f x (bad 2)) (bad 1)
lost false r f x p q = absurd (clash p)
lost true r true x p q = absurd (clash (sym q))
lost true true false x p q = refl
lost true false false x p q = refl

module _ (supply b : List ℕ) (written : clock_written b ≡ true) where
  -- the hour is found, and the reading goes on behind the flag
  pub label_found : flag_right b ≡ true → read_energy supply (meant (label_under b (flag_written b))) (drop 19 b) ≡ read_label supply b
  label_found e =
      sym (ap (λ x. cond x (read_flag supply b) (bad 1)) (and_from (clock_written b) (clock_right b) written (flagged_clock b e))
      ∙ ap (λ x. cond x (read_energy supply (meant (label_under b (flag_written b))) (drop 19 b)) (bad 2)) e)

  -- it is not, and the clock or the flag is bad
  pub label_lost : flag_right b ≡ false → bad (cond (clock_right b) 2 1) ≡ read_label supply b
  label_lost e = lost (clock_written b) (clock_right b) (flag_right b) (read_energy supply (meant (label_under b (flag_written b))) (drop 19 b)) written e

-- the test of the line's end, at the count of the visible bytes
pub invoice_tested : (b : List ℕ) (count : ℕ) (x : Bool) → count ≡ leading visible 26 b → x ≡ (leb 1 count && ends_at b count && eqb (get_or b (count + 1) 0) 10) → invoice_right b ≡ x
invoice_tested b count x e h =
    let next : suc count ≡ count + 1 = omega arith in
    (λ i. leb 1 (sym e i) && ends_at b (sym e i) && eqb (get_or b (suc (sym e i)) 0) 10) ∙ ap (λ k. leb 1 count && ends_at b count && eqb (get_or b k 0) 10) next ∙ sym h

-- visible bytes, one or more, are not refused as a code
pub invoice_not_refused : (b : List ℕ) (count : ℕ) → count ≡ leading visible 26 b → 1 ≤ count → is_invoice (take count b) ≡ false → ⊥
invoice_not_refused b count e some h =
    clash (sym h ∙ ap (λ k. is_invoice (take k b)) e ∙ invoice_leading b (omega arith))

module _ (supply : List ℕ) (hour : ℕ) where
  -- D is read, and the reading goes on behind it
  pub energy_on : (b rest : List ℕ) (count wh : ℕ) → energy_right b ≡ true → count ≡ leading digit 10 b → wh ≡ number 0 (take count b) → rest ≡ drop (count + 1) b → read_energy supply hour b ≡ read_empty 5 supply hour wh rest
  energy_on b rest count wh right counted valued left =
      let next : suc (leading digit 10 b) ≡ count + 1 = omega arith in
      ap (λ x. cond x (read_empty 5 supply hour (number 0 (take (leading digit 10 b) b)) (drop (suc (leading digit 10 b)) b)) (bad 3)) right
      ∙ (λ i. read_empty 5 supply hour ((ap (λ k. number 0 (take k b)) (sym counted) ∙ sym valued) i) ((ap (λ k. drop k b) next ∙ sym left) i))

  module _ (wh : ℕ) (rest : List ℕ) where
    pub method_off : one_digit 1 6 (drop 5 rest) ≡ false → read_method supply hour wh (drop 5 rest) ≡ bad 9
    method_off wrong = ap (λ x. cond x (read_firmness supply hour wh (get_or (drop 5 rest) 0 0 - 48) (drop 2 (drop 5 rest))) (bad 9)) wrong

    pub method_on : (m : ℕ) → one_digit 1 6 (drop 5 rest) ≡ true → m ≡ get_or rest 5 0 - 48 → read_method supply hour wh (drop 5 rest) ≡ read_firmness supply hour wh m (drop 7 rest)
    method_on m right valued =
        ap (λ x. cond x (read_firmness supply hour wh (get_or (drop 5 rest) 0 0 - 48) (drop 2 (drop 5 rest))) (bad 9)) right
        ∙ (λ i. read_firmness supply hour wh ((ap (λ d. d - 48) (get_or-drop 5 rest 0 0) ∙ sym valued) i) (drop-drop 2 5 rest i))

    module _ (m : ℕ) where
      pub firmness_off : one_digit 0 1 (drop 7 rest) ≡ false → read_firmness supply hour wh m (drop 7 rest) ≡ bad 10
      firmness_off wrong = ap (λ x. cond x (read_invoice supply hour wh m (get_or (drop 7 rest) 0 0 - 48) (drop 2 (drop 7 rest))) (bad 10)) wrong

      pub firmness_on : (f : ℕ) → one_digit 0 1 (drop 7 rest) ≡ true → f ≡ get_or rest 7 0 - 48 → read_firmness supply hour wh m (drop 7 rest) ≡ read_invoice supply hour wh m f (drop 9 rest)
      firmness_on f right valued =
          ap (λ x. cond x (read_invoice supply hour wh m (get_or (drop 7 rest) 0 0 - 48) (drop 2 (drop 7 rest))) (bad 10)) right
          ∙ (λ i. read_invoice supply hour wh m ((ap (λ d. d - 48) (get_or-drop 7 rest 0 0) ∙ sym valued) i) (drop-drop 2 7 rest i))

      module _ (f : ℕ) (b : List ℕ) where
        abbrev whole : List ℕ → Record
        whole text = record { supply = supply; hour = hour; wh = wh; method = m; firmness = f; invoice = text }

        pub invoice_off : invoice_right b ≡ false → read_invoice supply hour wh m f b ≡ bad 11
        invoice_off wrong = ap (λ x. cond x (good (whole (take (leading visible 26 b) b)) (drop (2 + leading visible 26 b) b)) (bad 11)) wrong

        pub invoice_on : (text : List ℕ) (count : ℕ) → invoice_right b ≡ true → count ≡ leading visible 26 b → text ≡ take count b → read_invoice supply hour wh m f b ≡ good (whole text) (drop (count + 2) b)
        invoice_on text count right counted is =
            let next : 2 + leading visible 26 b ≡ count + 2 = omega arith in
            ap (λ x. cond x (good (whole (take (leading visible 26 b) b)) (drop (2 + leading visible 26 b) b)) (bad 11)) right
            ∙ (λ i. good (whole ((ap (λ k. take k b) (sym counted) ∙ sym is) i)) (drop (next i) b))

-- A is read, or it is bad
pub supply_on : (b : List ℕ) → (is_supply (take 22 b) && ends_at b 22) ≡ true → read_label (take 22 b) (drop 23 b) ≡ read_line b
unfolding read_line
supply_on b right = sym (ap (λ x. cond x (read_label (take 22 b) (drop 23 b)) (bad 0)) right)

pub supply_off : (b : List ℕ) → (is_supply (take 22 b) && ends_at b 22) ≡ false → bad 0 ≡ read_line b
unfolding read_line
supply_off b wrong = sym (ap (λ x. cond x (read_label (take 22 b) (drop 23 b)) (bad 0)) wrong)

-- the bytes of a part that goes to the end
abbrev pub tail : List ℕ → ℕ → List ℕ
tail b i = take (length b - i) (drop i b)

pub tail_from : (b : List ℕ) (i : ℕ) → tail b i ≡ drop i b
tail_from b i = between_to_end b i (length b) (omega arith)
