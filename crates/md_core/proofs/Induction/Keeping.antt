-- All is good after an event of a machine where all is good.
use Rattle.std.proofs.Common.{ℕ, ◌≡◌, List, Some, sym, ap, subst, ◌∙◌, slice_get}
use Rattle.md_core.proofs.Values.{Call, Task, Machine, working, Step}
use Rattle.md_core.proofs.Induction.Good.{IsGood, TaskFits}
use Rattle.md_core.proofs.Induction.Going.{Goes, AllApart, goes-cases, goes-as_many, still-working}
use Rattle.md_core.proofs.Induction.Knowing.{found-after}

module _ (calls : List Call) (apart : AllApart calls) (m m' : Machine) (what : Step) (g : Goes calls m m' what) (good : IsGood calls m) where
  fits-after : (i : ℕ) (asked : Call) (task : Task) → slice_get calls i ≡ Some asked → slice_get m'.jobs i ≡ Some (working task) → TaskFits m'.dirs asked task
  fits-after i asked task of is = goes-cases calls m m' what g i (working task) is
      (λ same now.
      let on = still-working task g.task' what.answer now in
      let mine : g.asked ≡ asked = (let e : Some g.asked ≡ Some asked = sym g.of ∙ ap (slice_get calls) (sym same) ∙ of in cc) in
      subst (λ (c : Call). TaskFits m'.dirs c task) mine (subst (TaskFits m'.dirs g.asked) (sym on.1) (g.does.fits on.0)))
      (λ differ was. g.does.others asked task (apart g.place i g.asked asked (λ same. differ (sym same)) g.of of) (good.fits i asked task of was))

  pub good-kept : IsGood calls m'
  good-kept = record {
    sound = g.does.sound;
    one_path = g.does.one_path;
    fits = fits-after;
    found = found-after calls m m' what g good;
    as_many = goes-as_many calls m m' what g ∙ good.as_many;
  }
