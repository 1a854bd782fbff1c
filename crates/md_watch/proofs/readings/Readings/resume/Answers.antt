use Rattle.std.proofs.Common.{[], Option, None, refl, sym, ap, subst, ◌∙◌}
use Rattle.md_kept.specs.Tables.{value_at, Puts}
use Rattle.md_watch.specs.declared.readings.Reading.{Reading}
use Rattle.md_watch.specs.Readings.{TakesIn, looker_of}
use Rattle.md_watch.proofs.readings.Readings.resume.Goals as goal

pub returns-in-None : goal.returns-in-None
returns-in-None c =
    let part = c.args.part.now in
    record {
      resumes = subst (λ (o : Option Reading). TakesIn c.args.now (looker_of part) [] o c.new.result)
          (sym c.in-None.is ∙ c.take-value.ensures.taken ∙ ap (λ n. value_at c.args.self.now.all n part.actor.now) c.number_of.ensures)
          (record { begun = c.new.ensures.begun; names = c.new.ensures.names; uniques = c.new.ensures.uniques });
      taken = subst (λ n. Puts n part.actor.now None c.args.self.now.all c.take-value.new.self) c.number_of.ensures c.take-value.ensures.puts;
    }

pub returns-in-Some : goal.returns-in-Some
returns-in-Some c =
    let part = c.args.part.now in
    record {
      resumes = subst (λ (o : Option Reading). TakesIn c.args.now (looker_of part) [] o c.in-Some.reading)
          (sym c.in-Some.is ∙ c.take-value.ensures.taken ∙ ap (λ n. value_at c.args.self.now.all n part.actor.now) c.number_of.ensures)
          (record { begun = refl; names = λ name. refl; uniques = λ unique. refl });
      taken = subst (λ n. Puts n part.actor.now None c.args.self.now.all c.take-value.new.self) c.number_of.ensures c.take-value.ensures.puts;
    }
