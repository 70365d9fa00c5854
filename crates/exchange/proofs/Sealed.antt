-- The sealed files are those that the calls tell.
use Rattle.std.proofs.Common.{◌≡◌, ℕ, ◌<◌, Bool, true, false, cond, ◌&&◌, eqb, ◌⊎◌, List, [], ◌∷◌, ◌++◌, length, get_or, Some, None, Option, sym, refl, ap, ◌∙◌, subst, ap₂, inl, inr, arith}
use Rattle.std.proofs.lemmas.Bool.{both_ways, cases_order, eq-eqb, ne_eqb, not-false}
use Rattle.std.specs.List.{AllByRecursion}
use Rattle.closing.proofs.Passing.{passed}
use Rattle.f5d.specs.Names.{Name}
use Rattle.f5d.specs.Records.{Record}
use Rattle.f5d.specs.Written.{lines_text}
use Rattle.outbox.proofs.Names.{after_differs, before_differs, name_itself, name_true}
use Rattle.outbox.specs.Outboxes.{as_sealed, names_empty, names_open, OpenFile, records_of, same_name, seal_tests, SealedFile}
use Rattle.vocabulary.specs.Answers.{first_met}
use Rattle.exchange.specs.Exchange.{Call, changed, load, on_book, open_file, publish, seal, Setting, was_granted, world, World}
use Rattle.exchange.specs.Law.{Fits}
use Rattle.exchange.specs.Told.{last_closed, published_under, sealed_told}
use Rattle.exchange.proofs.Files.{all_names, length-names, Named, name_last, no_name, Out, rising_sorted, Sorted, sorted_at}
use Rattle.exchange.proofs.Granted.{file_called}
use Rattle.exchange.proofs.Posts.{posted, pubs}
use Rattle.exchange.proofs.Publications.{in_file, Pub}

-- what was published under a name, from the publications
abbrev under_name : Name → List Pub → List Record
under_name n [] = []
under_name n (p ∷ ps) = cond (same_name p.name n) (under_name n ps ++ p.curve) (under_name n ps)

told_under : (s : Setting) (cs : List Call) (n : Name) → published_under s cs n ≡ under_name n (pubs s cs)
told_under s [] n = refl
told_under s (on_book j c ∷ cs) n = told_under s cs n
told_under s (publish j q m ∷ cs) n = go (was_granted s cs (publish j q m)) (told_under s cs n)
  where
    go : (b : Bool) → published_under s cs n ≡ under_name n (pubs s cs) →
        cond (b && same_name m n) (published_under s cs n ++ last_closed s cs j) (published_under s cs n)
        ≡ under_name n (cond b (record { book = j; name = m; index = length (world s cs).outbox.sealed; curve = last_closed s cs j } ∷ pubs s cs) (pubs s cs))
    go true ih = ap (λ (z : List Record). cond (same_name m n) (z ++ last_closed s cs j) z) ih
    go false ih = ih
told_under s (open_file w d r ∷ cs) n = told_under s cs n
told_under s (seal m ∷ cs) n = told_under s cs n
told_under s (load m b ∷ cs) n = told_under s cs n

-- of names in turn each stands at one place
name_at_place : (ns : List Name) (p : Pub) (i : ℕ) → Sorted ns → Named ns p → i < length ns → eqb p.index i ≡ same_name p.name (get_or ns i no_name)
name_at_place ns p i s n lt = go (cases_order p.index i)
  where
    go : (p.index ≡ i) ⊎ ((p.index < i) ⊎ (i < p.index)) → eqb p.index i ≡ same_name p.name (get_or ns i no_name)
    go (inl e) =
        eq-eqb p.index i e
        ∙ sym (subst (λ m. same_name p.name m ≡ true) (sym n.1 ∙ ap (λ j. get_or ns j no_name) e) (name_itself p.name))
    go (inr (inl l)) =
        ne_eqb p.index i (λ e. omega arith)
        ∙ sym (ap (λ m. same_name m (get_or ns i no_name)) (sym n.1) ∙ before_differs (get_or ns p.index no_name) (get_or ns i no_name) (sorted_at ns p.index i s l lt))
    go (inr (inr l)) =
        ne_eqb p.index i (λ e. omega arith)
        ∙ sym (ap (λ m. same_name m (get_or ns i no_name)) (sym n.1) ∙ after_differs (get_or ns p.index no_name) (get_or ns i no_name) (sorted_at ns i p.index s l n.0))

by_place : (ns : List Name) (ps : List Pub) (i : ℕ) → Sorted ns → AllByRecursion (Named ns) ps → i < length ns → in_file i ps ≡ under_name (get_or ns i no_name) ps
by_place ns [] i s a lt = refl
by_place ns (p ∷ ps) i s a lt =
    ap₂ (λ (b : Bool) (z : List Record). cond b (z ++ p.curve) z) (name_at_place ns p i s a.0 lt) (by_place ns ps i s a.1 lt)

-- the open file's records are those published under its name
open_told : (s : Setting) (d r : List ℕ) (fs : List SealedFile) (f : OpenFile) (ps : List Pub) → Out s d r fs (Some f) ps → records_of f ≡ under_name f.name ps
open_told s d r fs f ps o =
    let ns = all_names fs (Some f) in
    o.open_one.0
    ∙ by_place ns ps (length fs) (rising_sorted ns o.posted.rising) o.posted.named (let e = length-names fs (Some f) in omega arith)
    ∙ ap (λ n. under_name n ps) (name_last fs f.name)

seal_told : (s : Setting) (cs : List Call) (d r : List ℕ) (fs : List SealedFile) (x : Option OpenFile) (n : Name) → Out s d r fs x (pubs s cs) →
    (elim x [ None ↦ false | Some f ↦ same_name f.name n ]) ≡ true → fs ≡ sealed_told s cs →
    (elim x as (λ _. List SealedFile) [ None ↦ fs | Some f ↦ fs ++ as_sealed f ∷ [] ]) ≡ sealed_told s cs ++ record { name = n; bytes = lines_text (published_under s cs n) } ∷ []
seal_told s cs d r fs None n o e ih = absurd (both_ways false refl e)
seal_told s cs d r fs (Some f) n o e ih =
    let m = name_true f.name n e in
    let b : lines_text (records_of f) ≡ lines_text (published_under s cs n) =
    ap lines_text (open_told s d r fs f (pubs s cs) o ∙ ap (λ x. under_name x (pubs s cs)) m ∙ sym (told_under s cs n)) in
    λ i. ih i ++ record { name = m i; bytes = b i } ∷ []

same_sealed : (b : Bool) (v w : World) → v.outbox.sealed ≡ w.outbox.sealed → (cond b v w).outbox.sealed ≡ w.outbox.sealed
same_sealed true v w e = e
same_sealed false v w e = refl

seal_step : (s : Setting) → Fits s → (cs : List Call) (n : Name) → (world s cs).outbox.sealed ≡ sealed_told s cs → (b : Bool) → was_granted s cs (seal n) ≡ b →
    (cond b (changed (world s cs) (seal n)) (world s cs)).outbox.sealed
    ≡ cond b (sealed_told s cs ++ record { name = n; bytes = lines_text (published_under s cs n) } ∷ []) (sealed_told s cs)
seal_step s fit cs n ih true g =
    let o = (world s cs).outbox in
    let a = file_called (names_empty o n) (first_met (seal_tests o n)) g in
    seal_told s cs o.distributor o.retailer o.sealed o.open_file n (posted s fit cs) (not-false (names_open o n) (passed (seal_tests o n) a.1).0) ih
seal_step s fit cs n ih false g = ih

pub sealed_as_told : (s : Setting) → Fits s → (cs : List Call) → (world s cs).outbox.sealed ≡ sealed_told s cs
sealed_as_told s fit [] = refl
sealed_as_told s fit (on_book k c ∷ cs) = same_sealed (was_granted s cs (on_book k c)) (changed (world s cs) (on_book k c)) (world s cs) refl ∙ sealed_as_told s fit cs
sealed_as_told s fit (publish k q n ∷ cs) = same_sealed (was_granted s cs (publish k q n)) (changed (world s cs) (publish k q n)) (world s cs) refl ∙ sealed_as_told s fit cs
sealed_as_told s fit (open_file a d r ∷ cs) = same_sealed (was_granted s cs (open_file a d r)) (changed (world s cs) (open_file a d r)) (world s cs) refl ∙ sealed_as_told s fit cs
sealed_as_told s fit (seal n ∷ cs) = seal_step s fit cs n (sealed_as_told s fit cs) (was_granted s cs (seal n)) refl
sealed_as_told s fit (load n b ∷ cs) = same_sealed (was_granted s cs (load n b)) (changed (world s cs) (load n b)) (world s cs) refl ∙ sealed_as_told s fit cs
