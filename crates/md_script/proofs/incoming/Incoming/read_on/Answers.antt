use Rattle.std.proofs.Common.{◌+◌, ◌≤◌, [], ◌++◌, length, take, drop, ap, subst, ◌∙◌, arith, length-drop}
use Rattle.std.proofs.lemmas.List.{length-take-le}
use Rattle.md_head.specs.Header.{lines_of}
use Rattle.md_script.specs.Progress.{outcome}
use Rattle.md_script.specs.Sources.{Gave}
use Rattle.md_script.proofs.Underway.{ran_whole, too_much, taken_more}
use Rattle.md_script.proofs.incoming.Incoming.read_on.Goals as goal

pub returns-then-count-eq0-clause-on : goal.returns-then-count-eq0-clause-on
returns-then-count-eq0-clause-on g c = λ s start so_far.
    let i = c.args.self.now in
    let new = c.read_behind.new.script.items in
    let before = g.R.Source.state c.args.source.now in
    let now = g.R.Source.state c.read_behind.new.source in
    let gave : Gave before now (drop i.filled new) 0 = subst (Gave before now (drop i.filled new)) c.if-count-eq0.true c.in-Bytes.ensures.read in
    ran_whole g.S.Session.step s start before now i c.args.session.now so_far (omega arith) new (c.read_behind.ensures.front ∙ c.make_room.ensures.front)
    gave c.requires.within (omega (arith, c.in_ok-make_room.ensures.room, c.read_behind.ensures.len)) c.run_lines.new.self c.run_lines.new.session
    (c.in_ok-run_lines-in-Bytes.ensures.lines []
    ∙ ap (λ text. outcome g.S.Session.step i.progress c.args.session.now (lines_of (take i.filled text) ++ [])) c.deref.ensures.value)

pub returns-then-self-gt-MOST_BYTES-clause-on : goal.returns-then-self-gt-MOST_BYTES-clause-on
returns-then-self-gt-MOST_BYTES-clause-on g c = λ s start so_far.
    let i = c.args.self.now in
    let new = c.read_behind.new.script.items in
    let long = length-drop i.filled new in
    too_much g.S.Session.step s start (g.R.Source.state c.args.source.now) (g.R.Source.state c.read_behind.new.source) i c.args.session.now so_far
    (omega arith) new (c.read_behind.ensures.front ∙ c.make_room.ensures.front) c.in-Bytes.count c.in-Bytes.ensures.read
    (omega (arith, long, c.in-Bytes.ensures.read.fits, c.in_ok-make_room.ensures.room, c.read_behind.ensures.len)) (omega arith) (omega arith)

pub returns-in_ok-take_in-in-Bytes-clause-on : goal.returns-in_ok-take_in-in-Bytes-clause-on
returns-in_ok-take_in-in-Bytes-clause-on g c = λ s start so_far.
    let i = c.args.self.now in
    let new = c.read_behind.new.script.items in
    let long = length-drop i.filled new in
    record {
      underway = taken_more g.S.Session.step s start (g.R.Source.state c.args.source.now) (g.R.Source.state c.read_behind.new.source) i c.args.session.now so_far
          (omega arith) new (c.read_behind.ensures.front ∙ c.make_room.ensures.front) c.in-Bytes.count c.in-Bytes.ensures.read
          (omega (arith, long, c.in-Bytes.ensures.read.fits, c.in_ok-make_room.ensures.room, c.read_behind.ensures.len))
          (omega arith) c.take_in.new.self c.take_in.new.session c.in_ok-take_in-in-Bytes.ensures.taken c.in_ok-take_in-in-Bytes.ensures.given;
      counted = c.in-Bytes.ensures.read.counted;
    }

pub returns-in_ok-take_in-in-Bytes-clause-fits : goal.returns-in_ok-take_in-in-Bytes-clause-fits
returns-in_ok-take_in-in-Bytes-clause-fits g c =
    let i = c.args.self.now in
    let new = c.read_behind.new.script.items in
    let part = length-drop i.filled new in
    let there : i.filled + c.in-Bytes.count ≤ length new =
    omega (arith, part, c.in-Bytes.ensures.read.fits, c.in_ok-make_room.ensures.room, c.read_behind.ensures.len) in
    let long = length-take-le (i.filled + c.in-Bytes.count) new there in
    let taken = c.in_ok-take_in-in-Bytes.ensures.taken in
    record {
      there = taken.there;
      counted = omega (arith, taken.passed, c.in_ok-take_in-in-Bytes.ensures.given);
      within = omega (arith, c.in_ok-take_in-in-Bytes.ensures.given);
    }
