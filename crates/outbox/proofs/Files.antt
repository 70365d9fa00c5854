-- Opening, publishing and sealing leave names in turn and files that hold what was published in them.
use Rattle.std.proofs.Common.{◌≡◌, ℕ, suc, ◌+◌, ◌<◌, Bool, true, false, cond, ltb, ◌⊎◌, List, [], ◌∷◌, ◌++◌, length, Some, None, Option, sym, refl, ap, ◌∙◌, inl, inr, append_assoc, append-nil, arith, length-append}
use Rattle.std.proofs.lemmas.Bool.{and_from, le-leb, ltb-false, ltb-true, not-false}
use Rattle.book.specs.BookLaw.{Whole}
use Rattle.book.specs.Books.{Book, Slip, some_of}
use Rattle.closing.proofs.Passing.{passed}
use Rattle.f5d.proofs.Turns.{every_record-append}
use Rattle.f5d.proofs.Written.{lines_here}
use Rattle.f5d.specs.Names.{comes_next, Name}
use Rattle.f5d.specs.Records.{can_bear, every_record, in_turn, Record, same}
use Rattle.official_time.specs.Dates.{day_of, is_date}
use Rattle.official_time.specs.declared.date.Date.{Date}
use Rattle.vocabulary.specs.Answers.{first_met, is_granted}
use Rattle.outbox.specs.OutboxLaw.{Coded, FineFile, HasCodes, NextName, Opened, OutboxLaw, PublishedIn, SealedAs}
use Rattle.outbox.specs.Outboxes.{appended, as_sealed, flat, last_of, new_name, open_tests, opened, OpenFile, Outbox, publish_tests, records_of, sealed_up, SealedFile, version_on, with_curve}
use Rattle.outbox.proofs.Names.{next_from}
use Rattle.outbox.proofs.Turns.{turn_more, whole_length}

pub flat_more : (cs : List (List Record)) (c : List Record) → flat (cs ++ c ∷ []) ≡ flat cs ++ c
flat_more [] c = append-nil c
flat_more (x ∷ xs) c = ap (λ (z : List Record). x ++ z) (flat_more xs c) ∙ sym (append_assoc x (flat xs) c)

-- ## Opening

-- the version that a date gets makes the name the next one
pub next_version : (m n : Name) → m.distributor ≡ n.distributor → m.retailer ≡ n.retailer → ltb (day_of n.date) (day_of m.date) ≡ false →
    n.version ≡ cond (ltb (day_of m.date) (day_of n.date)) 0 (m.version + 1) → comes_next m n ≡ true
next_version m n d r e v = next_from m n d r (go (ltb (day_of m.date) (day_of n.date)) refl v)
  where
    go : (b : Bool) → ltb (day_of m.date) (day_of n.date) ≡ b → n.version ≡ cond b 0 (m.version + 1) →
        ((day_of n.date ≡ day_of m.date) × (n.version ≡ m.version + 1)) ⊎ ((day_of m.date < day_of n.date) × (n.version ≡ 0))
    go true t w = inr (ltb-true (day_of m.date) (day_of n.date) t, w)
    go false t w =
        let a = ltb-false (day_of m.date) (day_of n.date) t in
        let b = ltb-false (day_of n.date) (day_of m.date) e in
        inl (omega arith, w)

next_name : (o : Outbox) (n : Name) (x : Option SealedFile) → n.distributor ≡ o.distributor → n.retailer ≡ o.retailer → HasCodes o x →
    (elim x [ None ↦ false | Some f ↦ ltb (day_of n.date) (day_of f.name.date) ]) ≡ false →
    n.version ≡ (elim x [ None ↦ 0 | Some f ↦ cond (ltb (day_of f.name.date) (day_of n.date)) 0 (f.name.version + 1) ]) →
    NextName x n
next_name o n None d r c e v = v
next_name o n (Some f) d r c e v = next_version f.name n (c.0 ∙ sym d) (c.1 ∙ sym r) e v

opening : (o : Outbox) (word : List ℕ) (date : Date) (room : ℕ) → Coded o → is_granted (first_met (open_tests o word date)) ≡ true → Opened o (opened o word date room)
opening o word date room c g =
    let h = passed (open_tests o word date) g in
    let few = ltb-false 255 (version_on o date) h.1.1.1.1.0 in
    record {
      file = record { name = new_name o word date; room = room; curves = [] };
      here = refl;
      named = and_from _ _ (and_from _ _ (and_from _ _ c.distributor c.retailer) (not-false (is_date date) h.1.0)) (le-leb (version_on o date) 255 few);
      next = next_name o (new_name o word date) (last_of o.sealed) refl refl c.last h.1.1.1.0 refl;
      empty = refl;
    }

-- ## Publishing

pub fine_more : (f : OpenFile) (u : List ℕ) (h n : ℕ) (c : List Record) → FineFile f → Whole u h (suc n) c → every_record can_bear c ≡ true →
    some_of (λ r. same r.supply u) (records_of f) ≡ false → FineFile (with_curve c f)
fine_more f u h n c fine w b lacks = record {
  bears =
      ap (every_record can_bear) (flat_more f.curves c)
      ∙ every_record-append can_bear (records_of f) c
      ∙ and_from (every_record can_bear (records_of f)) (every_record can_bear c) fine.bears b;
  turn = ap in_turn (flat_more f.curves c) ∙ turn_more (records_of f) w lacks fine.turn;
  filled = λ _.
      let a = ap length (flat_more f.curves c) in
      let d = length-append (records_of f) c in
      let e = whole_length w in
      omega arith;
}

publishing : (o : Outbox) (f : OpenFile) (k : Book) (slip : Slip) (name : Name) (h n : ℕ) → o.open_file ≡ Some f → FineFile f →
    Whole k.terms.supply h (suc n) k.curve → every_record can_bear k.curve ≡ true → is_granted (first_met (publish_tests o k slip name)) ≡ true →
    PublishedIn f k.curve (appended o k.curve)
publishing o f k slip name h n e fine w b g = record {
  file = with_curve k.curve f;
  here = ap (λ (x : Option OpenFile). elim x as (λ _. Option OpenFile) [ None ↦ None | Some y ↦ Some (with_curve k.curve y) ]) e;
  same_name = refl;
  behind = flat_more f.curves k.curve;
  fine =
      fine_more f k.terms.supply h n k.curve fine w b
      (ap (λ (x : Option OpenFile). elim x as (λ _. Bool) [ None ↦ false | Some y ↦ some_of (λ r. same r.supply k.terms.supply) (records_of y) ]) (sym e)
      ∙ (passed (publish_tests o k slip name) g).1.0);
}

-- ## Sealing

sealing : (o : Outbox) (f : OpenFile) → o.open_file ≡ Some f → FineFile f → 0 < length f.curves → SealedAs f o (sealed_up o)
sealing o f e fine some = record {
  file = as_sealed f;
  here = ap (λ (x : Option OpenFile). elim x as (λ _. List SealedFile) [ None ↦ o.sealed | Some y ↦ o.sealed ++ as_sealed y ∷ [] ]) e;
  same_name = refl;
  holds = record { some = fine.filled some; bear = fine.bears; turn = fine.turn; lines = lines_here (records_of f) fine.bears };
}

pub outbox_law : OutboxLaw
outbox_law = record { opening = opening; publishing = publishing; sealing = sealing }
