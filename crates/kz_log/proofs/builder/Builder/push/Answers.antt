use Rattle.std.proofs.Common.{◌≡◌, ◌∷◌, [], subst, ap, rules}
use Rattle.kz_settle.specs.Stands.{entries_of_answer}
use Rattle.kz_log.specs.Building.{Building, IsBuiltFrom}
use Rattle.kz_log.proofs.Building.{took_push, on_ok}
use Rattle.kz_log.proofs.builder.Builder.push.Goals as goal

pub returns : goal.returns
returns c =
    let new = c.apply_settled.new.self in
    let was : Building = record { position = c.self.inside.position; epoch = c.self.inside.epoch; image = c.self.inside.image; settling = c.self.inside.settler } in
    let same : was ≡ c.args.self.now = search rules in
    on_ok c.apply_settled.result _ _ c.apply_settled.ensures (λ made.
    subst (λ (old : Building). IsBuiltFrom (c.args.e ∷ []) old.position old.epoch old new) same
    (took_push c.args.e (entries_of_answer c.in_ok-settled.settled) was new c.push.new.self c.in_ok-settled.ensures.stands
    (ap (λ (b : Building). b.settling) made) (ap (λ (b : Building). b.image) made) (ap (λ (b : Building). b.position) made) (ap (λ (b : Building). b.epoch) made)))
