-- A line is read rightly, and in one way only.
use Rattle.std.proofs.Common.{◌≡◌, ℕ, zero, suc, ◌+◌, ◌-◌, ◌<◌, ◌≤◌, Bool, true, cond, ◌&&◌, ◌||◌, eqb, leb, List, [], ◌∷◌, ◌++◌, length, get_or, take, drop, decimal, sym, refl, ap, ◌∙◌, subst, ⊎_elim, arith}
use Rattle.std.proofs.lemmas.Fmt.{decimal_nonempty, digits_decimal, decimal_injective}
use Rattle.std.proofs.lemmas.List.{append_assoc, append_cancel_right, length-append, same_from_push}
use Rattle.std.proofs.lemmas.Bool.{and_from, and_parts, both_ways, cases_order, cond_both, eqb-true, le-leb, leb-true, ne_eqb, not_from_false, or_cases}
use Rattle.std.specs.List.{concat}
use Rattle.official_time.specs.Dates.{day_of, is_date, on}
use Rattle.official_time.specs.Hours.{flag, is_hour, is_label, IsLabel, last_hour, meant}
use Rattle.official_time.specs.Texts.{label_text}
use Rattle.official_time.specs.declared.label.Label.{Label}
use Rattle.official_time.proofs.Dates.{within}
use Rattle.official_time.proofs.Hours.{flag_small, label_from, label_to}
use Rattle.vocabulary.specs.Codes.{code_byte, is_invoice, is_supply, visible}
use Rattle.std.specs.List.{list_all}
use Rattle.vocabulary.specs.Ranges.{between}
use Rattle.f5d.specs.Records.{Begins, can_bear, ended, fields, FirstBad, IsLine, line_length, Record}
use Rattle.f5d.specs.Reading.{bad, clock_written, ends_at, good, label_under, leading, LineReading, LineHere, LineRead, number, one_digit, read_empty, read_energy, read_firmness, read_flag, read_invoice, read_label, read_line, read_method, RightLine}
use Rattle.vocabulary.specs.Codes.{digit}
use Rattle.f5d.proofs.Fields.{all_pass, clock_passes, clock_there, ended_apart, ended_rest, ended_there, energy_passes, energy_there, every_weaker, invoice_passes, invoice_there, invoice_written, label_back, label_passes, label_unended, number_written, numerals, one_digit_passes, one_digit_there, passes_all, supply_passes, supply_there, unended}

-- ## Records that lines can bear

pub record Bearable (r : Record) : Type 0 where
  pub supply : is_supply r.supply ≡ true
  pub hour : is_hour r.hour ≡ true
  pub wh : r.wh ≤ 9999999999
  pub method : (1 ≤ r.method) × (r.method ≤ 6)
  pub firmness : r.firmness ≤ 1
  pub invoice : is_invoice r.invoice ≡ true

pub bearable : (r : Record) → can_bear r ≡ true → Bearable r
bearable r h =
    let t = all_pass (is_supply r.supply) (is_hour r.hour ∷ leb r.wh 9999999999 ∷ between 1 6 r.method ∷ leb r.firmness 1 ∷ is_invoice r.invoice ∷ []) h in
    record {
      supply = t.0;
      hour = t.1.0;
      wh = leb-true r.wh 9999999999 t.1.1.0;
      method = within 1 6 r.method t.1.1.1.0;
      firmness = leb-true r.firmness 1 t.1.1.1.1.0;
      invoice = t.1.1.1.1.1.0;
    }

pub bears : (r : Record) → Bearable r → can_bear r ≡ true
bears r b =
    passes_all (is_supply r.supply) (is_hour r.hour ∷ leb r.wh 9999999999 ∷ between 1 6 r.method ∷ leb r.firmness 1 ∷ is_invoice r.invoice ∷ [])
    (b.supply, (b.hour, (le-leb r.wh 9999999999 b.wh, (and_from _ _ (le-leb 1 r.method b.method.0) (le-leb r.method 6 b.method.1), (le-leb r.firmness 1 b.firmness, (b.invoice, tt))))))

-- a record with the label of its hour, that a line can bear
pub record Borne (l : Label) (r : Record) : Type 0 where
  pub parts : Bearable r
  pub labels : IsLabel r.hour l

-- ## Fields one after the other

pub front_more : (n : ℕ) (fs : List (List ℕ)) (rest : List ℕ) → n < length fs → concat (take (suc n) fs) ++ rest ≡ concat (take n fs) ++ (get_or fs n [] ++ rest)
front_more n [] rest l = absurd (omega arith)
front_more zero (f ∷ fs) rest l = append_assoc f [] rest
front_more (suc n) (f ∷ fs) rest l =
    append_assoc f (concat (take (suc n) fs)) rest
    ∙ ap (λ t. f ++ t) (front_more n fs rest (omega arith))
    ∙ sym (append_assoc f (concat (take n fs)) (get_or fs n [] ++ rest))

pub front_less : (m n : ℕ) (fs : List (List ℕ)) → m ≤ n → concat (take n fs) ≡ concat (take m fs) ++ concat (drop m (take n fs))
front_less zero n fs l = refl
front_less (suc m) zero fs l = absurd (omega arith)
front_less (suc m) (suc n) [] l = refl
front_less (suc m) (suc n) (f ∷ fs) l = ap (λ t. f ++ t) (front_less m n fs (omega arith)) ∙ sym (append_assoc f (concat (take m fs)) (concat (drop m (take n fs))))

pub front_whole : (m : ℕ) (fs : List (List ℕ)) → concat fs ≡ concat (take m fs) ++ concat (drop m fs)
front_whole zero fs = refl
front_whole (suc m) [] = refl
front_whole (suc m) (f ∷ fs) = ap (λ t. f ++ t) (front_whole m fs) ∙ sym (append_assoc f (concat (take m fs)) (concat (drop m fs)))

-- fields that bytes can begin with in one way only
abbrev pub Apart : List (List ℕ) → List (List ℕ) → Type 0
Apart [] [] = Unit {0}
Apart [] (g ∷ gs) = ⊥
Apart (f ∷ fs) [] = ⊥
Apart (f ∷ fs) (g ∷ gs) = ((x y : List ℕ) → f ++ x ≡ g ++ y → (f ≡ g) × (x ≡ y)) × Apart fs gs

pub one_front : (n : ℕ) (fs gs : List (List ℕ)) → Apart fs gs → (x y : List ℕ) → concat (take n fs) ++ x ≡ concat (take n gs) ++ y → (take n fs ≡ take n gs) × (x ≡ y)
one_front zero fs gs a x y e = (refl, e)
one_front (suc n) [] [] a x y e = (refl, e)
one_front (suc n) [] (g ∷ gs) a x y e = absurd a
one_front (suc n) (f ∷ fs) [] a x y e = absurd a
one_front (suc n) (f ∷ fs) (g ∷ gs) a x y e =
    let h = a.0 _ _ (sym (append_assoc f (concat (take n fs)) x) ∙ e ∙ append_assoc g (concat (take n gs)) y) in
    let k = one_front n fs gs a.1 x y h.1 in
    ((λ i. h.0 i ∷ k.0 i), k.1)

text_apart : (s t : List ℕ) → list_all unended s ≡ true → list_all unended t ≡ true → (x y : List ℕ) → ended s ++ x ≡ ended t ++ y → (ended s ≡ ended t) × (x ≡ y)
text_apart s t p q x y e = let h = ended_apart s t x y p q (sym (ended_rest s x) ∙ e ∙ ended_rest t y) in (ap ended h.0, h.1)

last_apart : (s t : List ℕ) → list_all unended s ≡ true → list_all unended t ≡ true → (x y : List ℕ) → (s ++ 59 ∷ 10 ∷ []) ++ x ≡ (t ++ 59 ∷ 10 ∷ []) ++ y → (s ++ 59 ∷ 10 ∷ [] ≡ t ++ 59 ∷ 10 ∷ []) × (x ≡ y)
last_apart s t p q x y e =
    let h = ended_apart s t (10 ∷ x) (10 ∷ y) p q (sym (append_assoc s (59 ∷ 10 ∷ []) x) ∙ e ∙ append_assoc t (59 ∷ 10 ∷ []) y) in
    (ap (λ u. u ++ 59 ∷ 10 ∷ []) h.0, ap (drop 1) h.1)

-- no text of a field has a `;`
code_unended : (b : ℕ) → code_byte b ≡ true → unended b ≡ true
code_unended b h = not_from_false _ (ne_eqb b 59 (λ e. ⊎_elim (λ p. let w = within 48 57 b p in omega arith) (λ p. let w = within 65 90 b p in omega arith) (or_cases (between 48 57 b) (between 65 90 b) h)))

digit_unended : (b : ℕ) → digit b ≡ true → unended b ≡ true
digit_unended b h = let w = within 48 57 b h in not_from_false _ (ne_eqb b 59 (λ e. omega arith))

figure_apart : (v w : ℕ) → v ≤ 9 → w ≤ 9 → (x y : List ℕ) → ended ((48 + v) ∷ []) ++ x ≡ ended ((48 + w) ∷ []) ++ y → (ended ((48 + v) ∷ []) ≡ ended ((48 + w) ∷ [])) × (x ≡ y)
figure_apart v w l m = text_apart ((48 + v) ∷ []) ((48 + w) ∷ []) (one v l) (one w m)
  where
    one : (u : ℕ) → u ≤ 9 → list_all unended ((48 + u) ∷ []) ≡ true
    one u n = and_from _ true (not_from_false _ (ne_eqb (48 + u) 59 (λ e. omega arith))) refl

module _ (l : Label) (r : Record) (b : Borne l r) where
  supply_unended : list_all unended r.supply ≡ true
  supply_unended = every_weaker code_byte unended code_unended r.supply (and_parts (eqb (length r.supply) 22) (list_all code_byte r.supply) b.parts.supply).1

  flag_figure : l.flag ≤ 1
  flag_figure = let s = b.labels.season in let t = flag_small r.hour in omega arith

  energy_unended : list_all unended (decimal r.wh) ≡ true
  energy_unended = let w = b.parts.wh in every_weaker digit unended digit_unended (decimal r.wh) (digits_decimal numerals r.wh (omega arith))

  invoice_unended : list_all unended r.invoice ≡ true
  invoice_unended = every_weaker visible unended (λ c h. (and_parts (between 33 126 c) (unended c) h).1) r.invoice (and_parts (between 1 26 (length r.invoice)) (list_all visible r.invoice) b.parts.invoice).1

pub fields_apart : (l k : Label) (r q : Record) → Borne l r → Borne k q → Apart (fields l r) (fields k q)
fields_apart l k r q b c =
    let supplies = text_apart r.supply q.supply (supply_unended l r b) (supply_unended k q c) in
    let labels = text_apart (label_text l) (label_text k) (label_unended l) (label_unended k) in
    let f = flag_figure l r b in
    let g = flag_figure k q c in
    let flags = figure_apart l.flag k.flag (omega arith) (omega arith) in
    let energies = text_apart (decimal r.wh) (decimal q.wh) (energy_unended l r b) (energy_unended k q c) in
    let methods = figure_apart r.method q.method (let m = b.parts.method in omega arith) (let m = c.parts.method in omega arith) in
    let firm = figure_apart r.firmness q.firmness (let m = b.parts.firmness in omega arith) (let m = c.parts.firmness in omega arith) in
    let invoices = last_apart r.invoice q.invoice (invoice_unended l r b) (invoice_unended k q c) in
    (supplies, (labels, (flags, (energies, (empty, (empty, (empty, (empty, (empty, (methods, (firm, (invoices, tt))))))))))))
  where
    empty : (x y : List ℕ) → 59 ∷ x ≡ 59 ∷ y → (◌≡◌ {A = List ℕ} (59 ∷ []) (59 ∷ [])) × (x ≡ y)
    empty x y e = (refl, ap (drop 1) e)

-- ## How far bytes agree with a line

-- all the bytes are the first n fields of the line of r, and then `bytes`
pub record Agrees (n : ℕ) (all bytes : List ℕ) (l : Label) (r : Record) : Type 0 where
  pub borne : Borne l r
  pub split : all ≡ concat (take n (fields l r)) ++ bytes

module _ (all : List ℕ) (n : ℕ) (small : n < 12) (bytes : List ℕ) (l : Label) (r : Record) (a : Agrees n all bytes l r) where
  -- one field more
  pub agrees_more : (k : Label) (q : Record) (rest : List ℕ) → Borne k q → take n (fields k q) ≡ take n (fields l r) → bytes ≡ get_or (fields k q) n [] ++ rest → Agrees (suc n) all rest k q
  agrees_more k q rest b same e = record { borne = b; split = a.split ∙ (λ i. concat (sym same i) ++ e i) ∙ sym (front_more n (fields k q) rest small) }

  -- the bytes have one reading so far, so the next field is bad if no record has it
  pub first_bad : ((k : Label) (q : Record) (rest : List ℕ) → Borne k q → take n (fields k q) ≡ take n (fields l r) → bytes ≡ get_or (fields k q) n [] ++ rest → ⊥) → FirstBad n all
  first_bad none = record {
    before = record { some = r; bears = bears r a.borne.parts; label = l; labels = a.borne.labels; rest = bytes; split = a.split };
    here = here;
  }
    where
      here : Begins (suc n) all → ⊥
      here h =
          let b : Borne h.label h.some = record { parts = bearable h.some h.bears; labels = h.labels } in
          let fs = fields h.label h.some in
          let e = one_front n fs (fields l r) (fields_apart h.label l h.some r b a.borne) (get_or fs n [] ++ h.rest) bytes (sym (front_more n fs h.rest small) ∙ sym h.split ∙ a.split) in
          none h.label h.some h.rest b e.0 (sym e.1)

  -- a field is read by a test that passes for the text of this field in each record that agrees so far
  pub field_right : (test : List ℕ → Bool) (x : LineRead) → ((k : Label) (q : Record) (rest : List ℕ) → Borne k q → take n (fields k q) ≡ take n (fields l r) → test (get_or (fields k q) n [] ++ rest) ≡ true) → (test bytes ≡ true → RightLine all x) → RightLine all (cond (test bytes) x (bad n))
  field_right test x passes right =
      cond_both (test bytes) x (bad n) (RightLine all) right
      (λ failed. first_bad (λ k q rest b same e. both_ways (test bytes) failed (ap test e ∙ passes k q rest b same)))

  -- and reading goes on behind it, with a record that has the field
  pub field_then : (test : List ℕ → Bool) (x : LineRead) → ((k : Label) (q : Record) (rest : List ℕ) → Borne k q → take n (fields k q) ≡ take n (fields l r) → test (get_or (fields k q) n [] ++ rest) ≡ true) → (k : Label) (q : Record) (rest : List ℕ) → take n (fields k q) ≡ take n (fields l r) → (test bytes ≡ true → Borne k q × (bytes ≡ get_or (fields k q) n [] ++ rest)) → (Agrees (suc n) all rest k q → RightLine all x) → RightLine all (cond (test bytes) x (bad n))
  field_then test x passes k q rest same there next = field_right test x passes (λ passed. let t = there passed in next (agrees_more k q rest t.0 same t.1))

-- ## The fields, from the last one back

abbrev told : List ℕ → Label → ℕ → ℕ → ℕ → List ℕ → Record
told supply l wh method firmness invoice = record { supply = supply; hour = meant l; wh = wh; method = method; firmness = firmness; invoice = invoice }

-- the fields that are not reached yet are those of some record
abbrev so_far : List ℕ → Label → ℕ → ℕ → ℕ → Record
so_far supply l wh method firmness = told supply l wh method firmness (48 ∷ [])

line_here : (all rest : List ℕ) (l : Label) (r : Record) → Agrees 12 all rest l r → LineHere all r rest
line_here all rest l r a = record { line = concat (fields l r); bears = bears r a.borne.parts; is_line = record { label = l; labels = a.borne.labels; written = refl }; split = a.split }

module _ (all supply : List ℕ) (l : Label) where
  invoice_right : (wh method firmness : ℕ) (bytes : List ℕ) → Agrees 11 all bytes l (so_far supply l wh method firmness) → RightLine all (read_invoice supply (meant l) wh method firmness bytes)
  invoice_right wh method firmness bytes a =
      let k = leading visible 26 bytes in
      let rest = drop (2 + k) bytes in
      let p = a.borne.parts in
      let q = told supply l wh method firmness (take k bytes) in
      let with-invoice : is_invoice (take k bytes) ≡ true → Borne l q = λ i. record { parts = record { supply = p.supply; hour = p.hour; wh = p.wh; method = p.method; firmness = p.firmness; invoice = i }; labels = a.borne.labels } in
      field_then all 11 (omega arith) bytes l (so_far supply l wh method firmness) a invoice_written (good q rest)
      (λ m o more b same. invoice_passes o.invoice more b.parts.invoice)
      l q rest refl
      (λ passed. let t = invoice_there bytes passed in (with-invoice t.0, t.1))
      (line_here all rest l q)

  firmness_right : (wh method : ℕ) (bytes : List ℕ) → Agrees 10 all bytes l (so_far supply l wh method 0) → RightLine all (read_firmness supply (meant l) wh method bytes)
  firmness_right wh method bytes a =
      let v = get_or bytes 0 0 - 48 in
      let p = a.borne.parts in
      let q = so_far supply l wh method v in
      let with-firmness : v ≤ 1 → Borne l q = λ f. record { parts = record { supply = p.supply; hour = p.hour; wh = p.wh; method = p.method; firmness = f; invoice = p.invoice }; labels = a.borne.labels } in
      field_then all 10 (omega arith) bytes l (so_far supply l wh method 0) a (one_digit 0 1) (read_invoice supply (meant l) wh method v (drop 2 bytes))
      (λ m o more b same. one_digit_passes 0 1 o.firmness more (omega arith) b.parts.firmness)
      l q (drop 2 bytes) refl
      (λ passed. let t = one_digit_there 0 1 bytes passed in (with-firmness t.1, t.2))
      (invoice_right wh method v (drop 2 bytes))

  method_right : (wh : ℕ) (bytes : List ℕ) → Agrees 9 all bytes l (so_far supply l wh 1 0) → RightLine all (read_method supply (meant l) wh bytes)
  method_right wh bytes a =
      let v = get_or bytes 0 0 - 48 in
      let p = a.borne.parts in
      let q = so_far supply l wh v 0 in
      let with-method : (1 ≤ v) × (v ≤ 6) → Borne l q = λ m. record { parts = record { supply = p.supply; hour = p.hour; wh = p.wh; method = m; firmness = p.firmness; invoice = p.invoice }; labels = a.borne.labels } in
      field_then all 9 (omega arith) bytes l (so_far supply l wh 1 0) a (one_digit 1 6) (read_firmness supply (meant l) wh v (drop 2 bytes))
      (λ m o more b same. one_digit_passes 1 6 o.method more b.parts.method.0 b.parts.method.1)
      l q (drop 2 bytes) refl
      (λ passed. let t = one_digit_there 1 6 bytes passed in (with-method (t.0, t.1), t.2))
      (firmness_right wh v (drop 2 bytes))

  -- E to I
  empty_right : (n : ℕ) → n < 12 → ((k : Label) (q : Record) → get_or (fields k q) n [] ≡ ended []) → (r : Record) (bytes : List ℕ) (x : LineRead) → (Agrees (suc n) all (drop 1 bytes) l r → RightLine all x) → Agrees n all bytes l r → RightLine all (cond (ends_at bytes 0) x (bad n))
  empty_right n small empty r bytes x next a =
      field_then all n small bytes l r a (λ b. ends_at b 0) x
      (λ k q more b same. ap (λ f. ends_at (f ++ more) 0) (empty k q))
      l r (drop 1 bytes) refl
      (λ passed. (a.borne, ended_there 0 bytes passed ∙ ap (λ f. f ++ drop 1 bytes) (sym (empty l r))))
      next

  empties_right : (wh : ℕ) (bytes : List ℕ) → Agrees 4 all bytes l (so_far supply l wh 1 0) → RightLine all (read_empty 5 supply (meant l) wh bytes)
  empties_right wh b0 =
      let r = so_far supply l wh 1 0 in
      let left : ℕ → List ℕ → LineRead = λ n b. read_empty n supply (meant l) wh b in
      let b1 = drop 1 b0 in
      let b2 = drop 1 b1 in
      let b3 = drop 1 b2 in
      let b4 = drop 1 b3 in
      let b5 = drop 1 b4 in
      empty_right 4 (omega arith) (λ k q. refl) r b0 (left 4 b1)
      (empty_right 5 (omega arith) (λ k q. refl) r b1 (left 3 b2)
      (empty_right 6 (omega arith) (λ k q. refl) r b2 (left 2 b3)
      (empty_right 7 (omega arith) (λ k q. refl) r b3 (left 1 b4)
      (empty_right 8 (omega arith) (λ k q. refl) r b4 (left 0 b5) (method_right wh b5)))))

  energy_right : (bytes : List ℕ) → Agrees 3 all bytes l (so_far supply l 0 1 0) → RightLine all (read_energy supply (meant l) bytes)
  energy_right bytes a =
      let k = leading digit 10 bytes in
      let v = number 0 (take k bytes) in
      let rest = drop (suc k) bytes in
      let p = a.borne.parts in
      let q = so_far supply l v 1 0 in
      let with-energy : v ≤ 9999999999 → Borne l q = λ w. record { parts = record { supply = p.supply; hour = p.hour; wh = w; method = p.method; firmness = p.firmness; invoice = p.invoice }; labels = a.borne.labels } in
      field_then all 3 (omega arith) bytes l (so_far supply l 0 1 0) a (number_written 10) (read_empty 5 supply (meant l) v rest)
      (λ m o more b same. energy_passes o.wh more b.parts.wh)
      l q rest refl
      (λ passed. let t = energy_there bytes passed in (with-energy t.0, t.1))
      (empties_right v rest)

label_hour : (h : ℕ) (l : Label) → IsLabel h l → is_hour h ≡ true
label_hour h l is = and_from _ _ (le-leb 1 h is.hour.0) (le-leb h last_hour is.hour.1)

-- with another label, and its hour
with_label : (supply : List ℕ) (l k : Label) → Borne l (so_far supply l 0 1 0) → is_label k ≡ true → Borne k (so_far supply k 0 1 0)
with_label supply l k b passed =
    let is = label_to k passed in
    let p = b.parts in
    record {
      parts = record { supply = p.supply; hour = label_hour (meant k) k is; wh = p.wh; method = p.method; firmness = p.firmness; invoice = p.invoice };
      labels = is;
    }

module _ (all supply : List ℕ) where
  flag_right : (l : Label) (bytes : List ℕ) → Agrees 2 all bytes l (so_far supply l 0 1 0) → RightLine all (read_flag supply (ended (label_text l) ++ bytes))
  flag_right l bytes a =
      let v = get_or bytes 0 0 - 48 in
      let there : List ℕ → Label = λ b. label_under (ended (label_text l) ++ b) (get_or b 0 0 - 48) in
      let k = there bytes in
      let texts : ended (label_text k) ≡ ended (label_text l) = append_cancel_right (ended (label_text k)) (ended (label_text l)) bytes (sym (clock_there (ended (label_text l) ++ bytes) v (clock_passes l bytes))) in
      field_then all 2 (omega arith) bytes l (so_far supply l 0 1 0) a (λ b. one_digit 0 1 b && is_label (there b)) (read_energy supply (meant k) (drop 2 bytes))
      flag_passes
      k (so_far supply k 0 1 0) (drop 2 bytes) (λ i. ended supply ∷ texts i ∷ [])
      (λ passed. let y = and_parts (one_digit 0 1 bytes) (is_label k) passed in (with_label supply l k a.borne y.1, (one_digit_there 0 1 bytes y.0).2))
      (energy_right all supply k (drop 2 bytes))
    where
      flag_passes : (m : Label) (o : Record) (more : List ℕ) → Borne m o → take 2 (fields m o) ≡ take 2 (fields l (so_far supply l 0 1 0)) → (one_digit 0 1 (ended ((48 + m.flag) ∷ []) ++ more) && is_label (label_under (ended (label_text l) ++ (ended ((48 + m.flag) ∷ []) ++ more)) (48 + m.flag - 48))) ≡ true
      flag_passes m o more b same =
          let behind = ended ((48 + m.flag) ∷ []) ++ more in
          let flags : 48 + m.flag - 48 ≡ m.flag = omega arith in
          let texts : ended (label_text l) ≡ ended (label_text m) = sym (ap (λ fs. get_or fs 1 []) same) in
          and_from _ _ (one_digit_passes 0 1 m.flag more (omega arith) (flag_figure m o b))
          (ap is_label ((λ i. label_under (texts i ++ behind) (flags i)) ∙ label_back o.hour m behind b.labels) ∙ (label_from o.hour m b.labels).0)

  label_right : (l : Label) (bytes : List ℕ) → Agrees 1 all bytes l (so_far supply l 0 1 0) → RightLine all (read_label supply bytes)
  label_right l bytes a =
      field_right all 1 (omega arith) bytes l (so_far supply l 0 1 0) a (λ b. clock_written b && (is_label (label_under b 0) || is_label (label_under b 1))) (read_flag supply bytes)
      (λ m o more b same. label_passes o.hour m more b.labels)
      (λ passed. let y = and_parts (clock_written bytes) (is_label (label_under bytes 0) || is_label (label_under bytes 1)) passed in ⊎_elim (under 0 y.0) (under 1 y.0) (or_cases (is_label (label_under bytes 0)) (is_label (label_under bytes 1)) y.1))
    where
      under : (f : ℕ) → clock_written bytes ≡ true → is_label (label_under bytes f) ≡ true → RightLine all (read_flag supply bytes)
      under f clock passed =
          let k = label_under bytes f in
          let there = clock_there bytes f clock in
          subst (λ b. RightLine all (read_flag supply b)) (sym there)
          (flag_right k (drop 17 bytes) (agrees_more all 1 (omega arith) bytes l (so_far supply l 0 1 0) a k (so_far supply k 0 1 0) (drop 17 bytes) (with_label supply l k a.borne passed) refl there))

-- some record, for the fields that are not reached: the hour that ends on 2000/01/01 at 01:00
first_label : Label
first_label = record { date = on 2000 1 1; hour = 1; minute = 0; second = 0; flag = 0 }

first_labels : IsLabel (meant first_label) first_label
unfolding first_label is_label meant flag is_date day_of
first_labels = label_to first_label refl

any_supply : List ℕ
any_supply = 48 ∷ 48 ∷ 48 ∷ 48 ∷ 48 ∷ 48 ∷ 48 ∷ 48 ∷ 48 ∷ 48 ∷ 48 ∷ 48 ∷ 48 ∷ 48 ∷ 48 ∷ 48 ∷ 48 ∷ 48 ∷ 48 ∷ 48 ∷ 48 ∷ 48 ∷ []

any_borne : (supply : List ℕ) → is_supply supply ≡ true → Borne first_label (so_far supply first_label 0 1 0)
any_borne supply h =
    let is = first_labels in
    record {
      parts = record { supply = h; hour = label_hour (meant first_label) first_label is; wh = omega arith; method = (omega arith, omega arith); firmness = omega arith; invoice = refl };
      labels = is;
    }

pub read_right : (bytes : List ℕ) → RightLine bytes (read_line bytes)
unfolding read_line any_supply
read_right bytes =
    let s = take 22 bytes in
    let l = first_label in
    let a : Agrees 0 bytes bytes l (so_far any_supply l 0 1 0) = record { borne = any_borne any_supply refl; split = refl } in
    field_then bytes 0 (omega arith) bytes l (so_far any_supply l 0 1 0) a (λ b. is_supply (take 22 b) && ends_at b 22) (read_label s (drop 23 bytes))
    (λ m o more b same. supply_passes o.supply more b.parts.supply)
    l (so_far s l 0 1 0) (drop 23 bytes) refl
    (λ passed. let t = supply_there bytes passed in (any_borne s t.0, t.1))
    (label_right bytes s l (drop 23 bytes))

-- ## How long a line is

pub line_long : (r : Record) (line : List ℕ) → can_bear r ≡ true → IsLine r line → length line ≡ line_length r
line_long r line b is =
    let s = eqb-true (length r.supply) 22 (and_parts (eqb (length r.supply) 22) (list_all code_byte r.supply) (bearable r b).supply).0 in
    ap length is.written ∙ simp length-append (omega arith)

pub line_least : (r : Record) → can_bear r ≡ true → 56 ≤ line_length r
line_least r b =
    let p = bearable r b in
    let wh = p.wh in
    let some = decimal_nonempty r.wh (omega arith) in
    let i = within 1 26 (length r.invoice) (and_parts (between 1 26 (length r.invoice)) (list_all visible r.invoice) p.invoice).0 in
    omega arith

-- less is left behind it
pub rest_shorter : (bytes : List ℕ) (r : Record) (rest : List ℕ) → LineHere bytes r rest → 56 + length rest ≤ length bytes
rest_shorter bytes r rest h =
    let least = line_least r h.bears in
    let long = line_long r h.line h.bears h.is_line in
    let both = ap length h.split ∙ length-append h.line rest in
    omega arith

-- ## One right reading only

-- bytes that begin with more fields of a line begin with fewer
pub begins_less : (m n : ℕ) (bytes : List ℕ) → m ≤ n → Begins n bytes → Begins m bytes
begins_less m n bytes l h =
    let fs = fields h.label h.some in
    record {
      some = h.some;
      bears = h.bears;
      label = h.label;
      labels = h.labels;
      rest = concat (drop m (take n fs)) ++ h.rest;
      split = h.split ∙ ap (λ t. t ++ h.rest) (front_less m n fs l) ∙ append_assoc (concat (take m fs)) (concat (drop m (take n fs))) h.rest;
    }

pub line_begins : (m : ℕ) (bytes : List ℕ) (r : Record) (rest : List ℕ) → LineHere bytes r rest → Begins m bytes
line_begins m bytes r rest h =
    let fs = fields h.is_line.label r in
    record {
      some = r;
      bears = h.bears;
      label = h.is_line.label;
      labels = h.is_line.labels;
      rest = concat (drop m fs) ++ rest;
      split = h.split ∙ ap (λ t. t ++ rest) (h.is_line.written ∙ front_whole m fs) ∙ append_assoc (concat (take m fs)) (concat (drop m fs)) rest;
    }

-- a label has one text, and a text with a flag one label
pub same_label : (h j : ℕ) (l k : Label) → IsLabel h l → IsLabel j k → label_text l ≡ label_text k → l.flag ≡ k.flag → l ≡ k
same_label h j l k p q e f = sym (label_back h l [] p) ∙ (λ i. label_under (ended (e i) ++ []) (f i)) ∙ label_back j k [] q

-- the fields tell the record
pub same_record : (l k : Label) (r q : Record) → Borne l r → Borne k q → fields l r ≡ fields k q → r ≡ q
same_record l k r q b c e =
    let at : (n : ℕ) → get_or (fields l r) n [] ≡ get_or (fields k q) n [] = λ n. ap (λ fs. get_or fs n []) e in
    let digit_at : (n : ℕ) → get_or (get_or (fields l r) n []) 0 0 ≡ get_or (get_or (fields k q) n []) 0 0 = λ n. ap (λ f. get_or f 0 0) (at n) in
    let b-wh = b.parts.wh in
    let c-wh = c.parts.wh in
    let flags : l.flag ≡ k.flag = omega (arith, digit_at 2) in
    let labels = same_label r.hour q.hour l k b.labels c.labels (same_from_push (label_text l) (label_text k) 59 59 (at 1)).0 flags in
    let supplies = (same_from_push r.supply q.supply 59 59 (at 0)).0 in
    let hours : r.hour ≡ q.hour = (label_from r.hour l b.labels).1 ∙ ap meant labels ∙ sym (label_from q.hour k c.labels).1 in
    let energies = decimal_injective r.wh q.wh (omega arith) (omega arith) (same_from_push (decimal r.wh) (decimal q.wh) 59 59 (at 3)).0 in
    let methods : r.method ≡ q.method = omega (arith, digit_at 9) in
    let firm : r.firmness ≡ q.firmness = omega (arith, digit_at 10) in
    let invoices = append_cancel_right r.invoice q.invoice (59 ∷ 10 ∷ []) (at 11) in
    λ i. record { supply = supplies i; hour = hours i; wh = energies i; method = methods i; firmness = firm i; invoice = invoices i }

-- bytes begin with one line at most
pub one_line : (bytes : List ℕ) (r q : Record) (x y : List ℕ) → LineHere bytes r x → LineHere bytes q y → (r ≡ q) × (x ≡ y)
one_line bytes r q x y h j =
    let l = h.is_line.label in
    let k = j.is_line.label in
    let b : Borne l r = record { parts = bearable r h.bears; labels = h.is_line.labels } in
    let c : Borne k q = record { parts = bearable q j.bears; labels = j.is_line.labels } in
    let e = one_front 12 (fields l r) (fields k q) (fields_apart l k r q b c) x y (sym (h.split ∙ ap (λ t. t ++ x) h.is_line.written) ∙ j.split ∙ ap (λ t. t ++ y) j.is_line.written) in
    (same_record l k r q b c e.0, e.1)

pub one_reading : (bytes : List ℕ) (x y : LineRead) → RightLine bytes x → RightLine bytes y → x ≡ y
one_reading bytes (bad m) (bad n) h j =
    ⊎_elim (λ e. ap bad e)
    (⊎_elim (λ l. absurd (h.here (begins_less (suc m) n bytes l j.before))) (λ l. absurd (j.here (begins_less (suc n) m bytes l h.before))))
    (cases_order m n)
one_reading bytes (bad m) (good q y) h j = absurd (h.here (line_begins (suc m) bytes q y j))
one_reading bytes (good r x) (bad n) h j = absurd (j.here (line_begins (suc n) bytes r x h))
one_reading bytes (good r x) (good q y) h j = let e = one_line bytes r q x y h j in λ i. good (e.0 i) (e.1 i)

pub line_reading : LineReading
line_reading = record { right = read_right; only = λ bytes x h. one_reading bytes x (read_line bytes) h (read_right bytes) }

-- a line is read back
pub read_back : (r : Record) (line rest : List ℕ) → can_bear r ≡ true → IsLine r line → read_line (line ++ rest) ≡ good r rest
read_back r line rest b is = sym (line_reading.only (line ++ rest) (good r rest) (record { line = line; bears = b; is_line = is; split = refl }))
