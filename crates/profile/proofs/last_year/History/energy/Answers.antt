use Rattle.std.proofs.Common.{ap, ◌∙◌}
use Rattle.std.specs.Option.{option_map}
use Rattle.profile.proofs.Histories.{energy_found, rising_from}
use Rattle.profile.proofs.last_year.History.energy.Goals as goal

pub returns : goal.returns
returns c =
    let ps = c.args.self.now.places.now in
    let rising = (rising_from 0 ps c.args.self.now.rising).1 in
    ap (option_map (λ wh. wh.0)) c.copied.ensures ∙ energy_found c.args.hour ps c.find_in.result rising (c.find_in.ensures rising)
