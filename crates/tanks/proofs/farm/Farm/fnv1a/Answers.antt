use Rattle.std.proofs.Common.{◌≡◌, ℕ, fold, ap, rules, ◌∙◌}
use Rattle.application.proofs.Folds.{folded_rows}
use Rattle.digest.specs.Fnv.{mix, fnv_from}
use Rattle.tanks.specs.Mark.{tank_bytes, farm_bytes}
use Rattle.tanks.specs.declared.tank.Tank.{Tank}
use Rattle.tanks.proofs.farm.Farm.fnv1a.Goals as goal

pub returns : goal.returns
returns c =
    let rows : c.fold.result ≡ fold (λ (h : ℕ) (t : Tank). fnv_from h (tank_bytes t)) c.offset_basis.result c.args.self.now.tanks = search rules in
    rows ∙ (folded_rows mix tank_bytes c.offset_basis.result c.args.self.now.tanks ∙ ap (λ h. fnv_from h (farm_bytes c.args.self.now)) c.offset_basis.ensures)
