use Rattle.std.proofs.Common.{◌≡◌, ℕ, cond, sym, refl, ap, ◌∙◌, arith}
use Rattle.official_time.specs.Hours.{flag}
use Rattle.official_time.proofs.Hours.{flag_by_change, summer_from, summer_to}
use Rattle.official_time.proofs.hour.Hour.season.Goals as goal

pub returns-then-changed-half : goal.returns-then-changed-half
returns-then-changed-half c =
    let h = c.args.self.number in
    let f : flag h ≡ 1 = flag_by_change h c.half_year-half.result c.change_day.result c.args.self.last c.half_year-half.ensures.value c.change_day.ensures.value ∙ ap (λ b. cond b 1 0) c.if-changed-half.true in
    record { value = sym f; summer = (λ _. summer_to h c.args.self.last f, λ _. refl) }

pub returns-else-changed-half : goal.returns-else-changed-half
returns-else-changed-half c =
    let h = c.args.self.number in
    let f : flag h ≡ 0 = flag_by_change h c.half_year-half.result c.change_day.result c.args.self.last c.half_year-half.ensures.value c.change_day.ensures.value ∙ ap (λ b. cond b 1 0) c.if-changed-half.false in
    record {
      value = sym f;
      summer = (λ e. let z : ◌≡◌ {A = ℕ} 0 1 = cc in absurd (omega arith), λ s. let g = summer_from h s in absurd (omega arith));
    }
