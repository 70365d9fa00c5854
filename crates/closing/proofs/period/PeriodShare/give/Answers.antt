use Rattle.std.proofs.Common.{sym}
use Rattle.closing.proofs.Giving.{closes_kept_read, closes_none_missing, closes_shared_missing, closes_shared_read, given, kept_stays, may_take, missing_takes, moved, none_stays, read_takes, taken}
use Rattle.closing.proofs.period.PeriodShare.give.Goals as goal
use Rattle.closing.proofs.period.PeriodShare.give.Goals.{in-Some, in-Some-2, in-None, in-None-2}

pub next-requires : goal.next-requires
next-requires c =
    let k = c.requires in
    let d = k.1.1.1.1 in
    let t = read_takes k.0 k.1.0 k.1.1.0 k.1.1.1.0 c.args.self.now c.args.hour c.args.weight d c.in-Some.field-0 c.in-Some.is (sym c.if-changes.ensures) in
    let m = may_take k.0 k.1.0 k.1.1.0 k.1.1.1.0 c.args.self.now c.args.hour c.args.weight d t in
    record { some = m.0; within = m.1.0; fits = m.1.1 }

pub next-requires-in-None : goal.next-requires-in-None
next-requires-in-None c =
    let k = c.requires in
    let d = k.1.1.1.1 in
    let t = missing_takes k.0 k.1.0 k.1.1.0 k.1.1.1.0 c.args.self.now c.args.hour c.args.weight d c.in-None.is (sym c.if-fills.ensures) in
    let m = may_take k.0 k.1.0 k.1.1.0 k.1.1.1.0 c.args.self.now c.args.hour c.args.weight d t in
    record { some = m.0; within = m.1.0; fits = m.1.1 }

pub returns : goal.returns
returns c =
    let s = c.args.self.now in
    let o = c.args.hour in
    let w = c.args.weight in
    λ k b p i d.
    elim c.match-hour.branch [
      | in-Some r ↦
          let e = r.in-Some.field-0 in
          let a = sym r.if-changes.ensures in
          let t = read_takes k b p i s o w d e r.in-Some.is a in
          given k b p i _ _ _ _ r.method-is r.self-is
          (closes_shared_read k b p i s o w d e r.in-Some.is a r.next.result (taken k b p i s o w d t r.next.result r.next.ensures.value))
          (moved k b p i s o w d t r.next.new.self r.next.ensures.same r.next.ensures.past)
      | in-Some-2 r ↦
          let e = r.in-Some-2.energy in
          let a = sym r.if-changes.ensures in
          given k b p i _ _ _ _ r.method-is r.self-is (closes_kept_read k b p i s o w d e r.in-Some-2.is a) (kept_stays k b p i s o w d e r.in-Some-2.is a)
      | in-None r ↦
          let a = sym r.if-fills.ensures in
          let t = missing_takes k b p i s o w d r.in-None.is a in
          let n = r.next-in-None in
          given k b p i _ _ _ _ r.method-is r.self-is
          (closes_shared_missing k b p i s o w d r.in-None.is a n.result _ (taken k b p i s o w d t n.result n.ensures.value) d.state.missing)
          (moved k b p i s o w d t n.new.self n.ensures.same n.ensures.past)
      | in-None-2 r ↦
          let a = sym r.if-fills.ensures in
          given k b p i _ _ _ _ r.method-is r.self-is (closes_none_missing k b p i s o w d r.in-None-2.is a _ d.state.missing) (none_stays k b p i s o w d r.in-None-2.is a)
    ]
