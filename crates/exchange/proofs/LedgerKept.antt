-- Each sealed file's first offer is granted, and the ledger holds the curves last published in offered files.
use Rattle.std.proofs.Common.{◌≡◌, ℕ, zero, suc, ◌<◌, ◌≤◌, Bool, true, false, cond, ◌&&◌, ◌||◌, eqb, ◌⊎◌, List, [], ◌∷◌, ◌++◌, length, Some, None, Option, sym, refl, ap, ◌∙◌, inl, inr, arith, length-append}
use mathlib.Core.Bool.{and-false, or-false}
use lib.ListN.{length-map, get_or-append}
use Rattle.std.proofs.lemmas.Bool.{both_ways, cond-false, cond-true, le-ltb, lt-ltb}
use Rattle.book.specs.Books.{Slip}
use Rattle.f5d.specs.Names.{Name}
use Rattle.f5d.specs.Records.{Record}
use Rattle.outbox.specs.Outboxes.{as_sealed, OpenFile, Outbox, same_name, SealedFile}
use Rattle.retail.specs.Ledgers.{Ledger, record_of}
use Rattle.vocabulary.specs.Answers.{Answer, granted, refused}
use Rattle.vocabulary.specs.Refusals.{plain}
use Rattle.exchange.specs.Exchange.{answer, Call, changed, grants, load, on_book, open_file, publish, seal, Setting, was_granted, world, World}
use Rattle.exchange.specs.Law.{FilesAndLedger, Fits, LedgerHolds, LoadInTurn, OfferAnswered, OfferedInTurn, OffersAnswered}
use Rattle.exchange.specs.Told.{is_place, last_closed, name_offered, offered, offers, place_of, sealed_told}
use Rattle.exchange.proofs.Files.{all_names, by_name, Named, names, no_file, offered_append, offered_name, one_named, open_name, rising_sorted}
use Rattle.exchange.proofs.Offers.{first_loads, first_offer, last_name, later_loads, later_offer, Loaded, offer_turn, OffersFile, place_offers}
use Rattle.exchange.proofs.Posts.{last_is_newest, OutOf, posted, pubs}
use Rattle.exchange.proofs.Sealed.{sealed_as_told}
use Rattle.exchange.proofs.Publications.{all_map, in_first, newest_alike, newest_skip, Pub}

abbrev LoadedIn : Setting → World → List Pub → (ℕ → Bool) → Type 0
LoadedIn s w ps off = Loaded s w.ledger w.outbox.sealed ps off

-- ## The calls that do not load

-- ledger and sealed files stay
stays : (s : Setting) (v w : World) (ps : List Pub) (off : ℕ → Bool) → LoadedIn s v ps off → LoadedIn s w ps off → (b : Bool) → LoadedIn s (cond b v w) ps off
stays s v w ps off g h true = g
stays s v w ps off g h false = h

publish_stays : (s : Setting) (w : World) (ps : List Pub) (off : ℕ → Bool) (k : ℕ) (q : Slip) (n : Name) (c : List Record) → LoadedIn s w ps off →
    (b : Bool) → LoadedIn s (cond b (changed w (publish k q n)) w) (cond b (record { book = k; name = n; index = length w.outbox.sealed; curve = c } ∷ ps) ps) off
publish_stays s w ps off k q n c h true = record {
  upto = h.upto;
  within = h.within;
  told = h.told;
  last = h.last;
  lookup = λ u i. h.lookup u i
      ∙ ap (λ (z : List Record). record_of u i z)
      (sym (newest_skip s (in_first h.upto) u (record { book = k; name = n; index = length w.outbox.sealed; curve = c }) ps (le-ltb (length w.outbox.sealed) h.upto h.within)));
  places = h.places;
  room = h.room;
}
publish_stays s w ps off k q n c h false = h

last_name_more : (fs : List SealedFile) (x : SealedFile) (m : ℕ) → m ≤ length fs → last_name fs m ≡ last_name (fs ++ x ∷ []) m
last_name_more fs x zero le = refl
last_name_more fs x (suc i) le = ap {B = Option Name} (λ (f : SealedFile). Some f.name) (sym (get_or-append fs (x ∷ []) no_file i le))

seal_stays : (s : Setting) (l : Ledger) (fs : List SealedFile) (x : Option OpenFile) (ps : List Pub) (off : ℕ → Bool) → Loaded s l fs ps off →
    Loaded s l (elim x [ None ↦ fs | Some f ↦ fs ++ as_sealed f ∷ [] ]) ps off
seal_stays s l fs None ps off h = h
seal_stays s l fs (Some f) ps off h = record {
  upto = h.upto;
  within = let a = h.within in let b = length-append fs (as_sealed f ∷ []) in omega arith;
  told = h.told;
  last = h.last ∙ last_name_more fs (as_sealed f) h.upto h.within;
  lookup = h.lookup;
  places = h.places;
  room = h.room;
}

-- ## A load

module _ (s : Setting) (fit : Fits s) (cs : List Call) (name bytes : List ℕ) (h : LoadedIn s (world s cs) (pubs s cs) (offered s cs)) where
  o : OutOf s (world s cs).outbox (pubs s cs)
  o = posted s fit cs

  there : (k : ℕ) → offers s cs name bytes ≡ Some k → OffersFile (world s cs).outbox.sealed name bytes k
  there k e = place_offers (world s cs).outbox.sealed name bytes k (ap (λ (fs : List SealedFile). place_of fs name bytes) (sealed_as_told s fit cs) ∙ e)

  -- what a sealed file's offer is answered
  offer_answered : (x : Option ℕ) → offers s cs name bytes ≡ x → LoadInTurn s cs (load name bytes) x → OfferAnswered s cs (load name bytes) x
  offer_answered None e t = tt
  offer_answered (Some k) e t = go (offer_turn h.upto k (offered s cs) h.told t)
    where
      go : (k ≡ h.upto) ⊎ (k < h.upto) → answer (world s cs) (load name bytes) ≡ Some (cond (offered s cs k) (refused (plain 34)) granted)
      go (inl m) =
          ap {B = Option Answer} (λ a. Some a)
          (first_offer s fit (world s cs).outbox (pubs s cs) o name bytes k (there k e) (world s cs).ledger (offered s cs) h m
          ∙ sym (cond-false (offered s cs k) (refused (plain 34)) granted (h.told k ∙ le-ltb k h.upto (omega arith))))
      go (inr m) =
          ap {B = Option Answer} (λ a. Some a)
          (later_offer s fit (world s cs).outbox (pubs s cs) o name bytes k (there k e) (world s cs).ledger (offered s cs) h m
          ∙ sym (cond-true (offered s cs k) (refused (plain 34)) granted (h.told k ∙ lt-ltb k h.upto m)))

  -- and how far the ledger then is
  load_steps : (x : Option ℕ) → offers s cs name bytes ≡ x → LoadInTurn s cs (load name bytes) x → (b : Bool) → was_granted s cs (load name bytes) ≡ b →
      LoadedIn s (cond b (changed (world s cs) (load name bytes)) (world s cs)) (pubs s cs) (λ j. is_place x j || offered s cs j)
  load_steps None e t true g = absurd (both_ways (was_granted s cs (load name bytes)) t g)
  load_steps None e t false g = h
  load_steps (Some k) e t b g = go (offer_turn h.upto k (offered s cs) h.told t) b g
    where
      go : (k ≡ h.upto) ⊎ (k < h.upto) → (b : Bool) → was_granted s cs (load name bytes) ≡ b →
          LoadedIn s (cond b (changed (world s cs) (load name bytes)) (world s cs)) (pubs s cs) (λ j. eqb k j || offered s cs j)
      go (inl m) true g = first_loads s fit (world s cs).outbox (pubs s cs) o name bytes k (there k e) (world s cs).ledger (offered s cs) h m
      go (inl m) false g =
          absurd (both_ways (was_granted s cs (load name bytes)) g
          (ap (λ a. grants (Some a)) (first_offer s fit (world s cs).outbox (pubs s cs) o name bytes k (there k e) (world s cs).ledger (offered s cs) h m)))
      go (inr m) true g =
          absurd (both_ways (was_granted s cs (load name bytes))
          (ap (λ a. grants (Some a)) (later_offer s fit (world s cs).outbox (pubs s cs) o name bytes k (there k e) (world s cs).ledger (offered s cs) h m)) g)
      go (inr m) false g = later_loads s fit (world s cs).outbox (pubs s cs) o name bytes k (there k e) (world s cs).ledger (offered s cs) h m

-- ## Over the calls

so_far : (s : Setting) → Fits s → (cs : List Call) → OfferedInTurn s cs → LoadedIn s (world s cs) (pubs s cs) (offered s cs)
so_far s fit [] t = record {
  upto = 0;
  within = omega arith;
  told = λ j. sym (le-ltb j 0 (omega arith));
  last = refl;
  lookup = λ u h. refl;
  places = refl;
  room = omega arith;
}
so_far s fit (on_book k c ∷ cs) t =
    stays s (changed (world s cs) (on_book k c)) (world s cs) (pubs s cs) (offered s cs) (so_far s fit cs t) (so_far s fit cs t) (was_granted s cs (on_book k c))
so_far s fit (publish k q n ∷ cs) t =
    publish_stays s (world s cs) (pubs s cs) (offered s cs) k q n (last_closed s cs k) (so_far s fit cs t) (was_granted s cs (publish k q n))
so_far s fit (open_file a d r ∷ cs) t =
    stays s (changed (world s cs) (open_file a d r)) (world s cs) (pubs s cs) (offered s cs) (so_far s fit cs t) (so_far s fit cs t) (was_granted s cs (open_file a d r))
so_far s fit (seal n ∷ cs) t =
    stays s (changed (world s cs) (seal n)) (world s cs) (pubs s cs) (offered s cs)
    (seal_stays s (world s cs).ledger (world s cs).outbox.sealed (world s cs).outbox.open_file (pubs s cs) (offered s cs) (so_far s fit cs t))
    (so_far s fit cs t) (was_granted s cs (seal n))
so_far s fit (load n b ∷ cs) t =
    load_steps s fit cs n b (so_far s fit cs t.1) (offers s cs n b) refl t.0 (was_granted s cs (load n b)) refl

answered : (s : Setting) → Fits s → (cs : List Call) → OfferedInTurn s cs → OffersAnswered s cs
answered s fit [] t = tt
answered s fit (on_book k c ∷ cs) t = answered s fit cs t
answered s fit (publish k q n ∷ cs) t = answered s fit cs t
answered s fit (open_file a d r ∷ cs) t = answered s fit cs t
answered s fit (seal n ∷ cs) t = answered s fit cs t
answered s fit (load n b ∷ cs) t = (offer_answered s fit cs n b (so_far s fit cs t.1) (offers s cs n b) refl t.0, answered s fit cs t.1)

-- ## What the ledger holds

open_not_offered : (off : ℕ → Bool) (x : Option OpenFile) (k : ℕ) (n : Name) → off k ≡ false → offered_name off (open_name x) k n ≡ false
open_not_offered off None k n e = refl
open_not_offered off (Some f) k n e =
    ap (λ (b : Bool). (same_name f.name n && b) || false) e ∙ or-false (same_name f.name n && false) ∙ and-false (same_name f.name n)

-- a published curve's file was offered if it is one of the first ones
name_is_place : (s : Setting) (o : Outbox) (l : Ledger) (ps : List Pub) (off : ℕ → Bool) → OutOf s o ps → (h : Loaded s l o.sealed ps off) → (p : Pub) →
    Named (all_names o.sealed o.open_file) p → name_offered off o.sealed 0 p.name ≡ in_first h.upto p
name_is_place s o l ps off out h p e =
    let m = length o.sealed in
    let none : off m ≡ false = h.told m ∙ le-ltb m h.upto h.within in
    let long = length-map o.sealed (λ (f : SealedFile). f.name) in
    by_name off o.sealed 0 p.name
    ∙ sym (or-false (offered_name off (names o.sealed) 0 p.name))
    ∙ ap (λ (b : Bool). offered_name off (names o.sealed) 0 p.name || b) (sym (open_not_offered off o.open_file m p.name none))
    ∙ sym (offered_append off (names o.sealed) (open_name o.open_file) 0 m p.name (omega arith))
    ∙ one_named off (all_names o.sealed o.open_file) 0 p.index p.name p.index (rising_sorted (all_names o.sealed o.open_file) out.posted.rising) e.0 (omega arith) e.1
    ∙ h.told p.index

ledger_holds : (s : Setting) → Fits s → (cs : List Call) → OfferedInTurn s cs → LedgerHolds s cs
ledger_holds s fit cs t u h =
    let o = posted s fit cs in
    let l = so_far s fit cs t in
    l.lookup u h
    ∙ ap (λ (z : List Record). record_of u h z)
    (sym (last_is_newest s cs cs u
    ∙ newest_alike s (λ p. name_offered (offered s cs) (sealed_told s cs) 0 p.name) (in_first l.upto) u (pubs s cs)
    (all_map (Named (all_names (world s cs).outbox.sealed (world s cs).outbox.open_file))
    (λ p. name_offered (offered s cs) (sealed_told s cs) 0 p.name ≡ in_first l.upto p)
    (λ p e.
    ap (λ (fs : List SealedFile). name_offered (offered s cs) fs 0 p.name) (sym (sealed_as_told s fit cs))
    ∙ name_is_place s (world s cs).outbox (world s cs).ledger (pubs s cs) (offered s cs) o l p e)
    (pubs s cs) o.posted.named)))

pub ledger_kept : (s : Setting) → Fits s → (cs : List Call) → OfferedInTurn s cs → FilesAndLedger s cs
ledger_kept s fit cs t = record { answers = answered s fit cs t; ledger = ledger_holds s fit cs t }
