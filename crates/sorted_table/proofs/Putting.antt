-- What the puts of a run settle: the order, and the number of entries.
use Rattle.std.proofs.Common.{◌≡◌, ◌+◌, ◌⊎◌, List, [], ◌∷◌, length, sym, refl, ap, ◌∙◌, subst, inl, inr, ⊎_elim}
use Rattle.std.specs.List.{Contains}
use Rattle.sorted_table.specs.Orders.{TotalOrder}
use Rattle.sorted_table.specs.Entries.{entry, Lacks, Rising, Put, Puts}
use Rattle.sorted_table.specs.declared.place.Place.{Place}
use Rattle.sorted_table.proofs.Entries.{has_here, has_there, has_cases, has_none, by_order, not_itself}

-- some value is under the key
abbrev Under : {K V : Type 0} → List (Place K V) → K → Type 0
Under {K} {V} xs k = (v : V) × Contains xs (entry k v)

record Alike {K V : Type 0} (xs ys : List (Place K V)) : Type 0 where
  to : (k : K) → Under xs k → Under ys k
  back : (k : K) → Under ys k → Under xs k
  count : length xs ≡ length ys

module _ {K V : Type 0} {before : K → K → Type 0} (order : TotalOrder before) where
  pub puts_rising : {xs run ys : List (Place K V)} → Rising before xs → Puts before xs run ys → Rising before ys
  puts_rising up Puts.none = up
  puts_rising up (Puts.more p ps) = puts_rising p.rising ps

  pub under_or_lacks : (xs : List (Place K V)) (k : K) → Under xs k ⊎ Lacks xs k
  under_or_lacks [] k = inr (λ v h. has_none (entry k v) h)
  under_or_lacks (x ∷ xs) k =
      let rest = under_or_lacks xs k in
      by_order order x.key k (λ b. apart rest (not_itself order x.key k b)) here (λ b. apart rest (λ e. not_itself order k x.key b (sym e)))
    where
      here : x.key ≡ k → Under (x ∷ xs) k ⊎ Lacks (x ∷ xs) k
      here e = inl (x.value, has_here x xs (entry k x.value) (λ i. record { key = e i; value = x.value }))

      apart : Under xs k ⊎ Lacks xs k → (x.key ≡ k → ⊥) → Under (x ∷ xs) k ⊎ Lacks (x ∷ xs) k
      apart (inl u) n = inl (u.0, has_there x xs (entry k u.0) u.1)
      apart (inr lacks) n = inr (λ v h. ⊎_elim (λ e. n (ap (λ (p : Place K V). p.key) e)) (lacks v) (has_cases x xs (entry k v) h))

  module _ (xs xs' : List (Place K V)) (k : K) (v : V) (ys ys' : List (Place K V)) (p : Put before xs k v ys) (p' : Put before xs' k v ys') where
    under_put : ((q : K) → Under xs q → Under xs' q) → (q : K) → Under ys q → Under ys' q
    under_put to q u = by_order order q k (λ b. other (not_itself order q k b)) (λ e. subst (Under ys') (sym e) (v, p'.found)) (λ b. other (λ e. not_itself order k q b (sym e)))
      where
        other : (q ≡ k → ⊥) → Under ys' q
        other n = let t = to q (u.0, p.no_other q u.0 n u.1) in (t.0, p'.kept q t.0 n t.1)

    count_put : Alike xs xs' → length ys ≡ length ys'
    count_put a =
        ⊎_elim (λ u. p.same_count u.0 u.1 ∙ a.count ∙ sym (p'.same_count (a.to k u).0 (a.to k u).1))
        (λ lacks. p.one_more lacks ∙ ap (λ n. n + 1) a.count ∙ sym (p'.one_more (λ w h. let t = a.back k (w, h) in lacks t.0 t.1))) (under_or_lacks xs k)

  alike_puts : {xs xs' run ys ys' : List (Place K V)} → Alike xs xs' → Puts before xs run ys → Puts before xs' run ys' → Alike ys ys'
  alike_puts a Puts.none Puts.none = a
  alike_puts {xs} {xs'} a (Puts.more {ys = ms} {x = x} p ps) (Puts.more {ys = ms'} p' ps') =
      alike_puts
      record { to = under_put xs xs' x.key x.value ms ms' p p' a.to; back = under_put xs' xs x.key x.value ms' ms p' p a.back; count = count_put xs xs' x.key x.value ms ms' p p' a } ps
      ps'

  -- a run leads to one number of entries
  pub puts_length : {xs run ys zs : List (Place K V)} → Puts before xs run ys → Puts before xs run zs → length ys ≡ length zs
  puts_length p q = (alike_puts record { to = λ k u. u; back = λ k u. u; count = refl } p q).count
