use Rattle.std.proofs.Common.{cond, Option, Some, None, refl, sym, ap, subst, ◌∙◌}
use Rattle.md_watch.specs.declared.spells.Spell.{Spell}
use Rattle.md_watch.specs.Spells.{IsSame}
use Rattle.md_kept.specs.Tables.{value_at}
use Rattle.md_kept.proofs.Keys.{key-is, then}
use Rattle.md_watch.proofs.Marking.{passes-alike, passes-same}
use Rattle.md_watch.proofs.spells.Spells.note.Goals as goal
use Rattle.md_watch.proofs.spells.Spells.note.Goals.{in-None, in-Some}

pub returns : goal.returns
returns c =
    let number = c.args.number in
    let name = c.args.name.now in
    let old = c.args.self.now.all in
    let mid = c.take-at.new.self in
    let new = c.put_back.new.self in
    let had : Option Spell = c.take-at.result.value in
    let spell : Option Spell = Some c.match-value.spell in
    let left : Option Spell = Some c.pass.new.self in
    let same : IsSame had spell = elim c.match-value.branch [
      | in-None w ↦ subst (λ (o : Option Spell). IsSame o spell) (sym w.in-None.is)
          (subst (λ (s : Spell). IsSame None (Some s)) (sym w.spell-is)
          (record { since = w.new-spell.ensures.since; ended = w.new-spell.ensures.ended }))
      | in-Some w ↦ subst (λ (o : Option Spell). IsSame o spell) (sym (w.in-Some.is ∙ ap Some (sym w.spell-is)))
          (record { since = refl; ended = refl })
    ] in
    then c.put_back.result
    (λ put. record {
      here = passes-alike c.args.now c.args.was c.args.was c.args.is c.args.is had (value_at old number name) left (value_at new number name)
          refl refl (sym c.take-at.ensures.taken)
          (put number name ∙ ap (λ b. cond b left (value_at mid number name)) ((key-is (number, name) (number, name)).1 (refl, refl)))
          (passes-same c.args.now c.args.was c.args.is had spell left same c.in_ok-pass.ensures);
      others = λ m q apart. put m q ∙ ap (λ b. cond b left (value_at mid m q)) apart
          ∙ c.take-at.ensures.puts m q ∙ ap (λ b. cond b None (value_at old m q)) apart;
    })
    c.put_back.ensures
