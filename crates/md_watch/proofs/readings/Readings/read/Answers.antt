use Rattle.std.proofs.Common.{◌≡◌, ◌||◌, Some, None, Bool, sym, ap, subst, ◌∙◌}
use Rattle.md_watch.specs.declared.readings.Readings.{Readings}
use Rattle.md_watch.specs.Readings.{Adds, TakesIn, TakesPart, is_wrong, looker_of, reading_in}
use Rattle.md_watch.proofs.Parts.{takes-in, leaves-open, leaves-whole, shows_one, lacks_one, shows-one, lacks-one}
use Rattle.md_watch.proofs.readings.Readings.read.Goals as goal
use Rattle.md_watch.proofs.readings.Readings.read.Goals.{then-shows_other, else-shows_other}

pub returns-after-shows_other-clause-wrong : goal.returns-after-shows_other-clause-wrong
returns-after-shows_other-clause-wrong c =
    let part = c.args.part.now in
    let n = c.args.now in
    let t = c.args.paths.now in
    let names = c.args.names.now in
    let d = looker_of part in
    let o = reading_in c.args.self.now d in
    let shown = part.shown.now in
    let dir = c.directory-directory.ensures in
    let number = c.number_of-number.ensures in
    let resumed = c.resume-reading.result in
    let whole = c.add-in-Ok.new.self in
    let shows : Bool = shows_one n d o t names shown in
    let lacks : Bool = lacks_one n d o t names shown in
    let shows-is : c.shows_other-shows_other.result ≡ shows = c.shows_other-shows_other.ensures
    ∙ shows-one n d o t names shown _ _ dir number _ _ c.resume-reading.ensures.resumes.begun c.as_slice-shown.ensures in
    let adds : Adds part.place shown resumed whole =
    subst (λ ns. Adds part.place ns resumed whole) c.as_slice-shown.ensures c.in_ok-add-in-Ok.ensures in
    let takes : TakesIn n d shown o whole = takes-in n d o shown resumed whole c.resume-reading.ensures.resumes adds in
    let found : c.if-shows_other.result ≡ (shows || lacks) = elim c.if-shows_other.branch [
      | then-shows_other w ↦ w.result-is ∙ w.if-shows_other.true ∙ sym (ap (λ b. b || lacks) (sym shows-is ∙ w.if-shows_other.true))
      | else-shows_other w ↦ w.result-is ∙ w.lacks.ensures ∙ lacks-one n d o t names shown _ _ dir number whole takes
          ∙ sym (ap (λ b. b || lacks) (sym shows-is ∙ w.if-shows_other.false))
    ] in
    found ∙ sym (ap (λ r. is_wrong t names d n o r shown) c.in-Ok.is)

pub returns-in_ok-put-in-More-clause-goes_on : goal.returns-in_ok-put-in-More-clause-goes_on
returns-in_ok-put-in-More-clause-goes_on c =
    let part = c.args.part.now in
    let n = c.args.now in
    let d = looker_of part in
    let shown = part.shown.now in
    let old = c.args.self.now in
    let mid = c.resume-reading.new.self in
    let new : Readings = record mid { all = c.put.new.self } in
    let adds : Adds part.place shown c.resume-reading.result c.add.new.self =
    subst (λ ns. Adds part.place ns c.resume-reading.result c.add.new.self) c.as_slice-shown.ensures c.in_ok-add-in-More.ensures in
    let takes : TakesIn n d shown (reading_in old d) c.add.new.self =
    takes-in n d (reading_in old d) shown c.resume-reading.result c.add.new.self c.resume-reading.ensures.resumes adds in
    subst (λ r. TakesPart n d r shown old new None) (sym c.in-More.is)
    (leaves-open n d shown old mid c.resume-reading.ensures.taken new c.add.new.self c.number_of-number.result c.number_of-number.ensures
    c.in_ok-put-in-More.ensures takes)

pub returns-after-shows_other-clause-goes_on : goal.returns-after-shows_other-clause-goes_on
returns-after-shows_other-clause-goes_on c =
    let part = c.args.part.now in
    let n = c.args.now in
    let d = looker_of part in
    let shown = part.shown.now in
    let old = c.args.self.now in
    let whole = c.add-in-Ok.new.self in
    let adds : Adds part.place shown c.resume-reading.result whole =
    subst (λ ns. Adds part.place ns c.resume-reading.result whole) c.as_slice-shown.ensures c.in_ok-add-in-Ok.ensures in
    let takes : TakesIn n d shown (reading_in old d) whole =
    takes-in n d (reading_in old d) shown c.resume-reading.result whole c.resume-reading.ensures.resumes adds in
    subst (λ r. TakesPart n d r shown old c.resume-reading.new.self (Some whole)) (sym c.in-Ok.is)
    (leaves-whole n d shown old c.resume-reading.new.self c.resume-reading.ensures.taken whole takes)
