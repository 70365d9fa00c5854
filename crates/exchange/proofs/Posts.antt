-- The outbox after any list of calls holds what the calls published.
use Rattle.std.proofs.Common.{◌≡◌, ℕ, ◌+◌, ◌<◌, Bool, true, false, cond, ◌&&◌, eqb, ltb, List, [], ◌∷◌, ◌++◌, length, is_some, Some, None, Option, sym, refl, ap, ◌∙◌, subst, ap₂, ⊎_elim, append-nil, arith}
use mathlib.Core.Bool.{and-false, and-true}
use Rattle.std.proofs.lemmas.Bool.{and_cases, and_from, and_parts, both_ways, eqb-false, le-leb, ltb-false, not-false}
use Rattle.std.specs.List.{AllByRecursion}
use Rattle.book.proofs.Curves.{begun}
use Rattle.book.specs.Books.{is_closed, Slip, some_of, takes_slip, Terms}
use Rattle.closing.proofs.Passing.{passed}
use Rattle.f5d.specs.Names.{is_name, Name}
use Rattle.f5d.specs.Records.{can_bear, every_record, Record, same}
use Rattle.official_time.specs.Dates.{day_of, is_date}
use Rattle.official_time.specs.declared.date.Date.{Date}
use Rattle.outbox.proofs.Names.{name_true}
use Rattle.outbox.proofs.Turns.{whole_length}
use Rattle.outbox.specs.Outboxes.{as_sealed, last_of, names_empty, names_open, new_name, open_tests, OpenFile, Outbox, publish_tests, records_of, same_name, seal_tests, SealedFile, version_on, with_curve}
use Rattle.vocabulary.specs.Answers.{first_met}
use Rattle.exchange.specs.Exchange.{answer, book_at, Call, changed, grants, load, on_book, open_file, publish, seal, Setting, was_granted, world, World}
use Rattle.exchange.specs.Law.{Fits}
use Rattle.exchange.specs.Told.{last_closed, last_published, name_offered, offered, sealed_told, terms_at}
use Rattle.exchange.proofs.Closes.{kept, Kept}
use Rattle.exchange.proofs.Curves.{Curve}
use Rattle.exchange.proofs.Files.{Coded, follows_last, names, Out, out_open, out_publish, out_seal}
use Rattle.exchange.proofs.Granted.{book_called, file_called}
use Rattle.exchange.proofs.Publications.{Good, newest, Pub}

-- what was published, told from the calls
abbrev pub pubs : Setting → List Call → List Pub
pubs s [] = []
pubs s (on_book j c ∷ cs) = pubs s cs
pubs s (publish j q n ∷ cs) =
    cond (was_granted s cs (publish j q n))
    (record { book = j; name = n; index = length (world s cs).outbox.sealed; curve = last_closed s cs j } ∷ pubs s cs)
    (pubs s cs)
pubs s (open_file w d r ∷ cs) = pubs s cs
pubs s (seal n ∷ cs) = pubs s cs
pubs s (load n b ∷ cs) = pubs s cs

abbrev pub OutOf : Setting → Outbox → List Pub → Type 0
OutOf s o ps = Out s o.distributor o.retailer o.sealed o.open_file ps

-- ## The three calls that change the outbox

publish_there : (s : Setting) (d r : List ℕ) (fs : List SealedFile) (x : Option OpenFile) (ps : List Pub) (p : Pub) (c : List Record) → Out s d r fs x ps → p.index ≡ length fs →
    (elim x [ None ↦ false | Some f ↦ same_name f.name p.name ]) ≡ true → Good s p → 0 < length p.curve → p.curve ≡ c →
    (elim x [ None ↦ false | Some f ↦ some_of (λ q. same q.supply (terms_at s p.book).supply) (records_of f) ]) ≡ false →
    Out s d r fs (elim x [ None ↦ None | Some f ↦ Some (with_curve c f) ]) (p ∷ ps)
publish_there s d r fs None ps p c o i e g some k lacks = absurd (both_ways false refl e)
publish_there s d r fs (Some f) ps p c o i e g some k lacks =
    subst (λ (z : List Record). Out s d r fs (Some (with_curve z f)) (p ∷ ps)) k (out_publish s d r fs f ps p o i (name_true f.name p.name e) g some lacks)

publish_posts : (s : Setting) → (w : World) (closed : ℕ → List Record) (ps : List Pub) (k : ℕ) (q : Slip) (n : Name) → Kept s w.books closed → OutOf s w.outbox ps →
    (b : Bool) → grants (answer w (publish k q n)) ≡ b →
    OutOf s (cond b (changed w (publish k q n)) w).outbox (cond b (record { book = k; name = n; index = length w.outbox.sealed; curve = closed k } ∷ ps) ps)
publish_posts s w closed ps k q n kp o true g =
    let b = book_at w k in
    let a = book_called w k (first_met (publish_tests w.outbox b q n)) g in
    let h = passed (publish_tests w.outbox b q n) a.1 in
    let c = and_parts (takes_slip b q) (names_open w.outbox n) (not-false (takes_slip b q && names_open w.outbox n) h.0) in
    let cl = (and_parts (is_closed b.phase) (eqb q.book b.terms.number)
    (and_parts (is_closed b.phase && eqb q.book b.terms.number) (eqb q.close b.closes) c.0).0).0 in
    let i = kp.holds k cl in
    let long = kp.long in
    let t = kp.terms k in
    let p : Pub = record { book = k; name = n; index = length w.outbox.sealed; curve = closed k } in
    let wh : Curve (terms_at s k) (closed k) = subst (Curve (terms_at s k)) i.told i.whole in
    let hs = (begun b.terms (kp.sound k a.0).begun).hours.0 in
    let th = ap (λ (x : Terms). x.hours) t in
    let len = whole_length wh in
    publish_there s w.outbox.distributor w.outbox.retailer w.outbox.sealed w.outbox.open_file ps p b.curve o refl c.1
    (record { there = omega (arith, long, a.0); whole = wh; bears = subst (λ (x : List Record). every_record can_bear x ≡ true) i.told i.bears })
    (omega (arith, hs, th, len)) (sym i.told)
    (subst (λ (x : Terms). (elim w.outbox.open_file as (λ _. Bool) [ None ↦ false | Some f ↦ some_of (λ r. same r.supply x.supply) (records_of f) ]) ≡ false) t h.1.0)
publish_posts s w closed ps k q n kp o false g = o

open_there : (s : Setting) (d r : List ℕ) (fs : List SealedFile) (x : Option OpenFile) (ps : List Pub) (n : Name) (room : ℕ) → Out s d r fs x ps → is_some x ≡ false → is_name n ≡ true → Coded d r n →
    (elim (last_of fs) [ None ↦ false | Some f ↦ ltb (day_of n.date) (day_of f.name.date) ]) ≡ false →
    n.version ≡ (elim (last_of fs) [ None ↦ 0 | Some f ↦ cond (ltb (day_of f.name.date) (day_of n.date)) 0 (f.name.version + 1) ]) →
    Out s d r fs (Some (record { name = n; room = room; curves = [] })) ps
open_there s d r fs None ps n room o e w c t v =
    out_open s d r fs ps n room o w c (follows_last fs d r n (subst (AllByRecursion (Coded d r)) (append-nil (names fs)) o.posted.coded) c t v)
open_there s d r fs (Some f) ps n room o e w c t v = absurd (both_ways true e refl)

open_posts : (s : Setting) (w : World) (ps : List Pub) (a : List ℕ) (d : Date) (r : ℕ) → OutOf s w.outbox ps →
    (b : Bool) → grants (answer w (open_file a d r)) ≡ b → OutOf s (cond b (changed w (open_file a d r)) w).outbox ps
open_posts s w ps a d r o true g =
    let h = passed (open_tests w.outbox a d) g in
    let date = not-false (is_date d) h.1.0 in
    let few = ltb-false 255 (version_on w.outbox d) h.1.1.1.1.0 in
    let n = new_name w.outbox a d in
    open_there s w.outbox.distributor w.outbox.retailer w.outbox.sealed w.outbox.open_file ps n r o h.1.1.0
    (and_from _ _ (and_from _ _ (and_from _ _ o.codes.0 o.codes.1) date) (le-leb (version_on w.outbox d) 255 few))
    (refl, refl) h.1.1.1.0 refl
open_posts s w ps a d r o false g = o

seal_there : (s : Setting) (d r : List ℕ) (fs : List SealedFile) (x : Option OpenFile) (ps : List Pub) (n : Name) → Out s d r fs x ps →
    (elim x [ None ↦ false | Some f ↦ same_name f.name n ]) ≡ true → (elim x [ None ↦ false | Some f ↦ same_name f.name n && eqb (length f.curves) 0 ]) ≡ false →
    Out s d r (elim x [ None ↦ fs | Some f ↦ fs ++ as_sealed f ∷ [] ]) None ps
seal_there s d r fs None ps n o named full = absurd (both_ways false refl named)
seal_there s d r fs (Some f) ps n o named full =
    out_seal s d r fs f ps o
    (⊎_elim (λ e. absurd (both_ways (same_name f.name n) e named)) (λ e. let ne = eqb-false (length f.curves) 0 e in omega arith)
    (and_cases (same_name f.name n) (eqb (length f.curves) 0) full))

seal_posts : (s : Setting) (w : World) (ps : List Pub) (n : Name) → OutOf s w.outbox ps → (b : Bool) → grants (answer w (seal n)) ≡ b → OutOf s (cond b (changed w (seal n)) w).outbox ps
seal_posts s w ps n o true g =
    let a = file_called (names_empty w.outbox n) (first_met (seal_tests w.outbox n)) g in
    let h = passed (seal_tests w.outbox n) a.1 in
    seal_there s w.outbox.distributor w.outbox.retailer w.outbox.sealed w.outbox.open_file ps n o (not-false (names_open w.outbox n) h.0) a.0
seal_posts s w ps n o false g = o

same_outbox : (b : Bool) (v w : World) → v.outbox ≡ w.outbox → (cond b v w).outbox ≡ w.outbox
same_outbox true v w e = e
same_outbox false v w e = refl

-- ## Over the calls

pub posted : (s : Setting) → Fits s → (cs : List Call) → OutOf s (world s cs).outbox (pubs s cs)
posted s fit [] = record {
  codes = (fit.distributor, fit.retailer);
  posted = record { rising = tt; starts = tt; well = tt; coded = tt; named = tt; falling = tt; good = tt; turn = λ i. refl };
  sealed = λ i lt. absurd (omega arith);
  open_one = tt;
}
posted s fit (on_book k c ∷ cs) =
    subst (λ (o : Outbox). OutOf s o (pubs s cs)) (sym (same_outbox (was_granted s cs (on_book k c)) (changed (world s cs) (on_book k c)) (world s cs) refl)) (posted s fit cs)
posted s fit (publish k q n ∷ cs) =
    publish_posts s (world s cs) (last_closed s cs) (pubs s cs) k q n (kept s fit cs) (posted s fit cs) (was_granted s cs (publish k q n)) refl
posted s fit (open_file a d r ∷ cs) = open_posts s (world s cs) (pubs s cs) a d r (posted s fit cs) (was_granted s cs (open_file a d r)) refl
posted s fit (seal n ∷ cs) = seal_posts s (world s cs) (pubs s cs) n (posted s fit cs) (was_granted s cs (seal n)) refl
posted s fit (load n b ∷ cs) =
    subst (λ (o : Outbox). OutOf s o (pubs s cs)) (sym (same_outbox (was_granted s cs (load n b)) (changed (world s cs) (load n b)) (world s cs) refl)) (posted s fit cs)

-- the last curve published is the newest
pub last_is_newest : (s : Setting) (all cs : List Call) (u : List ℕ) →
    last_published s all cs u ≡ newest s (λ p. name_offered (offered s all) (sealed_told s all) 0 p.name) u (pubs s cs)
last_is_newest s all [] u = refl
last_is_newest s all (on_book j c ∷ cs) u = last_is_newest s all cs u
last_is_newest s all (publish j q n ∷ cs) u = go (was_granted s cs (publish j q n)) (last_is_newest s all cs u)
  where
    go : (b : Bool) → last_published s all cs u ≡ newest s (λ p. name_offered (offered s all) (sealed_told s all) 0 p.name) u (pubs s cs) →
        cond (same (terms_at s j).supply u && b && name_offered (offered s all) (sealed_told s all) 0 n) (last_closed s cs j) (last_published s all cs u)
        ≡ newest s (λ p. name_offered (offered s all) (sealed_told s all) 0 p.name) u
        (cond b (record { book = j; name = n; index = length (world s cs).outbox.sealed; curve = last_closed s cs j } ∷ pubs s cs) (pubs s cs))
    go true ih =
        ap₂ (λ (b : Bool) (z : List Record). cond (b && name_offered (offered s all) (sealed_told s all) 0 n) (last_closed s cs j) z) (and-true (same (terms_at s j).supply u)) ih
    go false ih =
        ap (λ (b : Bool). cond (b && name_offered (offered s all) (sealed_told s all) 0 n) (last_closed s cs j) (last_published s all cs u)) (and-false (same (terms_at s j).supply u)) ∙ ih
last_is_newest s all (open_file w d r ∷ cs) u = last_is_newest s all cs u
last_is_newest s all (seal n ∷ cs) u = last_is_newest s all cs u
last_is_newest s all (load n b ∷ cs) u = last_is_newest s all cs u
