use Rattle.std.proofs.Common.{◌≡◌, ◌++◌, List, [], ◌∷◌, Some, None, true, false, sym, ap, subst, ◌∙◌, arith}
use Rattle.std.proofs.lemmas.List.{append-nil, append_assoc}
use Rattle.std.proofs.lemmas.Option.{slice_get-get_or}
use Rattle.std.specs.Vec.{vec_len, vec_capacity}
use Rattle.md_listing.specs.declared.entry.Entry.{Entry}
use Rattle.md_listing.specs.Readings.{IsInOrder}
use Rattle.md_listing.specs.Rows.{IsBehind}
use Rattle.md_listing.proofs.Gathering.{one_more, order-kept}
use Rattle.md_listing.proofs.read.push_rows.Goals.{in-Some, then-is_in_order, else-is_in_order, in_default}
use Rattle.md_listing.proofs.read.push_rows.Goals as goal

pub loop-row-preserved : goal.loop-row-preserved
loop-row-preserved c =
    let rows = c.args.rows.now in
    let i = c.loop-row.row-index in
    let old = c.args.all.now.items in
    let is = slice_get-get_or rows i c.row-item.result c.loop-row-test.true ∙ ap Some (sym c.row-item.is) in
    let more = one_more c.args.place rows i _ is in
    elim c.match-of_row.branch [
      | in-Some w ↦
          let e = w.in-Some.entry in
          let items : c.match-of_row.all.items ≡ c.loop-row.all.items ++ e ∷ [] = ap (λ v. v.items) w.all-is ∙ w.push_reserved.ensures.items in
          record {
            entries = items ∙ ap (λ (es : List Entry). es ++ e ∷ []) c.loop-row.invariant.entries ∙ append_assoc old _ (e ∷ [])
                ∙ ap (λ (es : List Entry). old ++ es) (sym (more (Some e) (sym w.in-Some.ensures)));
            order = λ yes given. elim w.if-is_in_order.branch [
              | then-is_in_order w' ↦
                  order-kept e c.loop-row.all.items c.match-of_row.all.items items (c.loop-row.invariant.order w'.if-is_in_order.true given)
                  (subst (λ (es : List Entry). IsBehind es e) w'.deref.ensures.value
                  (w'.is_behind-is_in_order.ensures (sym w'.is_in_order-is ∙ sym w.is_in_order-is ∙ yes)))
              | else-is_in_order w' ↦ let never : true ≡ false = sym yes ∙ w.is_in_order-is ∙ w'.is_in_order-is ∙ w'.if-is_in_order.false in cc
            ];
            room = let long = ap (λ v. vec_len v) w.all-is in
                let cap = ap (λ v. vec_capacity v) w.all-is in
                omega (arith, long, cap, w.push_reserved.ensures.len, w.push_reserved.ensures.capacity, c.loop-row.invariant.room, c.loop-row-test.true);
          }
      | in_default w ↦
          record {
            entries = ap (λ v. v.items) w.all-is ∙ c.loop-row.invariant.entries
                ∙ ap (λ (es : List Entry). old ++ es) (sym (more None (sym w.in_default.ensures) ∙ append-nil _));
            order = λ yes given. subst (λ (es : List Entry). IsInOrder es) (sym (ap (λ v. v.items) w.all-is))
                (c.loop-row.invariant.order (sym w.is_in_order-is ∙ yes) given);
            room = let long = ap (λ v. vec_len v) w.all-is in
                let cap = ap (λ v. vec_capacity v) w.all-is in
                omega (arith, long, cap, c.loop-row.invariant.room);
          }
    ]
