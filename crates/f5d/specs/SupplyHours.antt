-- The order of the hours of supplies: by supply code, then by hour.
use Rattle.std.specs.Prelude.{◌≡◌, ◌<◌, ◌⊎◌}
use Rattle.std.proofs.Common.{sym, subst, ◌∙◌, inl, inr, ⊎_elim, arith}
use denote.Param.{number}
use denote.Struct.Record.{values_one}
use Rattle.std.proofs.lemmas.Bool.{cases_order}
use Rattle.std.specs.Cmp.Lexicographic.{slice_cmp}
use Rattle.std.specs.declared.cmp.Ordering.{Ordering}
use Rattle.std.specs.declared.cmp.Ordering.TheVariants.{Less, Equal, Greater}
use Rattle.std.specs.Ordering.{MatchOrdering, nat_cmp, ordering_then}
use Rattle.official_time.specs.HourKeys.{same_hour, hour_agrees}
use Rattle.sorted_table.specs.Orders.{TotalOrder}
use Rattle.vocabulary.specs.contracts.codes.code.Code.{struct, the_propositions}
use Rattle.vocabulary.specs.declared.codes.code.Code.{Code}
use Rattle.f5d.specs.Bytes.{Lower, lower_irreflexive, lower_total, lower_transitive, lower_agrees}
use Rattle.f5d.specs.declared.hours.SupplyHour.{SupplyHour}

-- a supply code is its bytes
pub same_supply : (a b : Code 22) → a.bytes ≡ b.bytes → a ≡ b
same_supply a b e = values_one (struct (number 22)) (the_propositions 22) a b (cc e)

abbrev pub Before : SupplyHour → SupplyHour → Type 0
Before a b = Lower a.supply.bytes b.supply.bytes ⊎ ((a.supply.bytes ≡ b.supply.bytes) × (a.hour.number < b.hour.number))

pub supply_hour_order : TotalOrder Before
supply_hour_order = record { irreflexive = irreflexive; transitive = transitive; total = total }
  where
    irreflexive : (a : SupplyHour) → Before a a → ⊥
    irreflexive a (inl l) = lower_irreflexive a.supply.bytes l
    irreflexive a (inr h) = let l = h.1 in omega arith

    transitive : (a b c : SupplyHour) → Before a b → Before b c → Before a c
    transitive a b c (inl l) (inl m) = inl (lower_transitive a.supply.bytes b.supply.bytes c.supply.bytes l m)
    transitive a b c (inl l) (inr m) = inl (subst (λ s. Lower a.supply.bytes s) m.0 l)
    transitive a b c (inr l) (inl m) = inl (subst (λ s. Lower s c.supply.bytes) (sym l.0) m)
    transitive a b c (inr l) (inr m) = let p = l.1 in let q = m.1 in inr (l.0 ∙ m.0, omega arith)

    total : (a b : SupplyHour) → Before a b ⊎ ((a ≡ b) ⊎ Before b a)
    total a b = ⊎_elim (λ l. inl (inl l)) (⊎_elim same (λ g. inr (inr (inl g)))) (lower_total a.supply.bytes b.supply.bytes)
      where
        same : a.supply.bytes ≡ b.supply.bytes → Before a b ⊎ ((a ≡ b) ⊎ Before b a)
        same e =
            ⊎_elim
            (λ h. let s = same_supply a.supply b.supply e in let t = same_hour a.hour b.hour h in inr (inl (λ i. record { supply = s i; hour = t i })))
            (⊎_elim (λ l. inl (inr (e, l))) (λ g. inr (inr (inr (sym e, g)))))
            (cases_order a.hour.number b.hour.number)

pub supply_hour_agrees : (a b : SupplyHour) → MatchOrdering (ordering_then (slice_cmp nat_cmp a.supply.bytes b.supply.bytes) (nat_cmp a.hour.number b.hour.number)) (Before a b) (a ≡ b) (Before b a)
supply_hour_agrees a b = by (slice_cmp nat_cmp a.supply.bytes b.supply.bytes) (lower_agrees a.supply.bytes b.supply.bytes) (nat_cmp a.hour.number b.hour.number) (hour_agrees a.hour b.hour)
  where
    by : (r : Ordering) → MatchOrdering r (Lower a.supply.bytes b.supply.bytes) (a.supply.bytes ≡ b.supply.bytes) (Lower b.supply.bytes a.supply.bytes) → (q : Ordering) → MatchOrdering q (a.hour.number < b.hour.number) (a.hour ≡ b.hour) (b.hour.number < a.hour.number) → MatchOrdering (ordering_then r q) (Before a b) (a ≡ b) (Before b a)
    by Less l q h = inl l
    by Greater l q h = inl l
    by Equal e Less h = inr (e, h)
    by Equal e Equal h = let s = same_supply a.supply b.supply e in λ i. record { supply = s i; hour = h i }
    by Equal e Greater h = inr (sym e, h)
