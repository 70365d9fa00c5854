use Rattle.std.proofs.Common.{arith, rules, sym, ◌∙◌}
use Rattle.std.proofs.lemmas.Bool.{true≢false}
use Rattle.std.proofs.lemmas.Fn.{always_returns_same}
use Rattle.std.specs.Ordering.{is_lt}
use Rattle.sorted_table.specs.Orders.{compared}
use Rattle.sorted_table.proofs.Compared.{all_before, before_lt, lt_before, parted}
use Rattle.sorted_table.proofs.search.lower_bound.Goals as goal

pub returns-in_default-clause-parted : goal.returns-in_default-clause-parted
returns-in_default-clause-parted g c =
    let p = c.partition_point.ensures.partitioned (λ y. is_lt (compared g.K.Key.order y.key c.args.key.now)) (always_returns_same _ _ _ (λ x r f called. search rules)) (parted g.K.Key.order c.args.entries.now c.args.key.now c.requires) in (
      λ k d l m. lt_before g.K.Key.order _ _ (p.0 k d l m),
      λ k d l m b. true≢false (sym (before_lt g.K.Key.order _ _ b) ∙ p.1 k d l m),
    )

pub returns-in-len1-up-clause-parted : goal.returns-in-len1-up-clause-parted
returns-in-len1-up-clause-parted g c = (
  λ k d l m. all_before g.K.Key.order _ _ _ c.requires c.last-item.is (sym c.is_before.ensures ∙ c.if-is_before.true) k d m,
  λ k d l m. absurd (omega arith),
)
