use Rattle.std.proofs.Common.{sym, refl, ◌∙◌}
use Rattle.charger.specs.Chargers.{facts_of}
use Rattle.charger.proofs.Ordered.{when_barred, when_outside, when_inside}
use Rattle.charger.proofs.Charger.turn.Goals as goal

pub returns-in_default-2 : goal.returns-in_default-2
returns-in_default-2 c =
    let s = c.args.self.now in
    let m = c.args.reading.now in
    let bar = sym (c.is_barred.ensures.answer m) ∙ c.if-is_barred.true in
    record { after = rw (when_barred s.settings (facts_of s m) s.code c.if-self.false c.in_default-2.not-BattError-0 bar) refl }

pub returns-in_default-3 : goal.returns-in_default-3
returns-in_default-3 c =
    let s = c.args.self.now in
    let m = c.args.reading.now in
    let free = sym (c.is_barred.ensures.answer m) ∙ c.if-is_barred.false in
    let out = sym c.is_outside.ensures.answer ∙ c.if-is_outside.true in
    record { after = c.protect.ensures.after ∙ rw (when_outside s.settings (facts_of s m) s.code c.if-self.false c.in_default-2.not-BattError-0 free out) refl }

pub returns-in_default-4 : goal.returns-in_default-4
returns-in_default-4 c =
    let s = c.args.self.now in
    let m = c.args.reading.now in
    let free = sym (c.is_barred.ensures.answer m) ∙ c.if-is_barred.false in
    let within = sym c.is_outside.ensures.answer ∙ c.if-is_outside.false in
    record { after = c.charge.ensures.after ∙ rw (when_inside s.settings (facts_of s m) s.code c.if-self.false c.in_default-2.not-BattError-0 free within) refl }
