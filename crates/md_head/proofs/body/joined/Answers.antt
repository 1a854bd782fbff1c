use Rattle.std.proofs.Common.{ℕ, List, Bor, ◌++◌, vec_len, sym, ap, ◌∙◌, arith}
use Rattle.std.proofs.lemmas.Bool.{eqb-true}
use Rattle.std.specs.List.{concat}
use Rattle.md_head.specs.Header.{lines_of}
use Rattle.md_head.proofs.Joins.{onto_joined, join_first, join_more, join_none, some_if}
use Rattle.md_head.proofs.body.joined.Goals as goal
use Rattle.md_head.proofs.body.joined.Goals.{then-is_empty, else-is_empty}

pub loop-line-preserved : goal.loop-line-preserved
loop-line-preserved c =
    let more = concat (lines_of c.in-Some.rest.now) in
    let bytes = c.loop-line.bytes.items in
    let line = c.in-Some.line.now in
    let before = ap (λ t. onto_joined bytes t) (sym (ap concat c.in-Some.ensures.lines)) ∙ c.loop-line.invariant in
    rw c.in_ok-extend_from_slice.ensures.items
    (elim c.if-is_empty.branch [
      | then-is_empty w ↦
          ap (λ l. onto_joined (bytes ++ l) more) (ap (λ (r : Bor (List ℕ)). r.now) w.line-is ∙ w.trim_front-line.ensures)
          ∙ join_first bytes line more (omega (arith, eqb-true (vec_len c.loop-line.bytes) 0 (sym w.if-is_empty.ensures))) ∙ before
      | else-is_empty w ↦
          ap (λ l. onto_joined (bytes ++ l) more) (ap (λ (r : Bor (List ℕ)). r.now) w.line-is)
          ∙ join_more bytes line more (omega (arith, some_if (vec_len c.loop-line.bytes) w.if-is_empty.ensures)) ∙ before
    ])

pub returns : goal.returns
returns c =
    sym (join_none c.loop-line.bytes.items) ∙ ap (λ ls. onto_joined c.loop-line.bytes.items (concat ls)) (sym c.in_default.ensures.lines) ∙
    c.loop-line.invariant
