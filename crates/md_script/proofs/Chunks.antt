-- A read behind the bytes that are there.
use Rattle.std.proofs.Common.{◌≡◌, ℕ, ◌+◌, ◌-◌, ◌<◌, ◌≤◌, List, ◌++◌, Option, Some, None, length, take, drop, sym, ap, subst, ◌∙◌, arith, append_assoc}
use Rattle.std.proofs.lemmas.List.{take-append-drop, drop-take, length-drop}
use Rattle.std.proofs.lemmas.List.Edits.{take-paste}
use Rattle.std.proofs.Math.Seq.{take-take}
use Rattle.std.specs.List.{copy_within}
use Rattle.std.specs.Io.KnownBytes.{Consumes, Keeps}

pub Consumes-append : (a b c : Option (List ℕ)) (xs ys : List ℕ) → Consumes a b xs → Consumes b c ys → Consumes a c (xs ++ ys)
Consumes-append None b c xs ys first second = tt
Consumes-append (Some s) None c xs ys first second = absurd first
Consumes-append (Some s) (Some t) None xs ys first second = absurd second
Consumes-append (Some s) (Some t) (Some u) xs ys first second = first ∙ ap (λ z. xs ++ z) second ∙ sym (append_assoc xs ys u)

-- a front, and n bytes behind it
pub front_parts : (xs : List ℕ) (f n : ℕ) → take (f + n) xs ≡ take f xs ++ take n (drop f xs)
front_parts xs f n = rw (take-take f (f + n) xs (omega arith), drop-take f n xs) at (sym (take-append-drop f (take (f + n) xs)))

-- what was given stays so over a read that gave nothing
pub Consumes-kept : (a b c : Option (List ℕ)) (xs : List ℕ) → Consumes a b xs → Keeps b c → Consumes a c xs
Consumes-kept None b c xs before kept = tt
Consumes-kept (Some s) None c xs before kept = absurd before
Consumes-kept (Some s) (Some t) None xs before kept = absurd kept
Consumes-kept (Some s) (Some t) (Some u) xs before kept = before ∙ ap (λ z. xs ++ z) (sym kept)

-- what was moved to the front
pub moved_front : (room : List ℕ) (start end : ℕ) → start ≤ end → end ≤ length room → take (end - start) (copy_within room start end 0) ≡ take (end - start) (drop start room)
moved_front room start end within there =
    let n = end - start in
    let zero : n ≡ 0 + n = omega arith in
    ap (λ k. take k (copy_within room start end 0)) zero ∙ take-paste room 0 (drop start room) n (omega arith) (omega (arith, length-drop start room))
