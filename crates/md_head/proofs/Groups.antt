-- Lines in groups: the function and the relation agree.
use Rattle.std.proofs.Common.{◌≡◌, ℕ, true, false, List, [], ◌∷◌, ◌++◌, refl, sym, ap, ◌∙◌, append-nil, subst, ⊎_elim, cond}
use Rattle.std.proofs.lemmas.Bool.{cases_Bool}
use Rattle.std.specs.Prelude.{All}
use Rattle.std.specs.List.{AllPass, flat_map}
use Rattle.std.proofs.lemmas.List.Elements.{All-cons, All-nil}
use Rattle.md_head.specs.Header.{is_continuation, Group, group_lines, IsFolded, IsGrouped}
use Rattle.md_head.specs.Computed.{Grouped, with_line, grouped}
use Rattle.md_head.proofs.Alls.{all_head, all_tail, pass_head, pass_tail, pass_nil, pass_cons}

abbrev pub made : List (List ℕ) → List Group → Grouped
made front groups = record { front = front; groups = groups }

pub grouped_nil : grouped [] ≡ made [] []
unfolding grouped
grouped_nil = refl

grouped_cons : (line : List ℕ) (lines : List (List ℕ)) → grouped (line ∷ lines) ≡ with_line line (grouped lines)
unfolding grouped
grouped_cons line lines = refl

abbrev onto_front : List ℕ → Grouped → Grouped
onto_front line g = made (line ∷ g.front) g.groups

abbrev new_group : List ℕ → Grouped → Grouped
new_group line g = made [] (record { first = line; continuations = g.front } ∷ g.groups)

-- a continuation first
pub grouped_on : (line : List ℕ) (lines : List (List ℕ)) → is_continuation line ≡ true
    → grouped (line ∷ lines) ≡ made (line ∷ (grouped lines).front) (grouped lines).groups
grouped_on line lines e = grouped_cons line lines ∙ ap (λ b. cond b (onto_front line (grouped lines)) (new_group line (grouped lines))) e

-- the first line of a group
pub grouped_new : (line : List ℕ) (lines : List (List ℕ)) → is_continuation line ≡ false
    → grouped (line ∷ lines) ≡ made [] (record { first = line; continuations = (grouped lines).front } ∷ (grouped lines).groups)
grouped_new line lines e = grouped_cons line lines ∙ ap (λ b. cond b (onto_front line (grouped lines)) (new_group line (grouped lines))) e

-- continuations in front of some lines
pub grouped_all : (front lines : List (List ℕ)) → AllPass is_continuation front
    → grouped (front ++ lines) ≡ made (front ++ (grouped lines).front) (grouped lines).groups
grouped_all [] lines h = refl
grouped_all (line ∷ front) lines h =
    let rest = grouped_all front lines (pass_tail is_continuation line front h) in
    grouped_on line (front ++ lines) (pass_head is_continuation line front h)
    ∙ ap (λ (g : Grouped). made (line ∷ g.front) g.groups) rest

-- a group in front of some lines
pub grouped_group : (first : List ℕ) (continuations lines : List (List ℕ)) → is_continuation first ≡ false → AllPass is_continuation continuations
    → grouped (first ∷ (continuations ++ lines)) ≡ made []
    (record { first = first; continuations = continuations ++ (grouped lines).front } ∷ (grouped lines).groups)
grouped_group first continuations lines begins goes_on =
    grouped_new first (continuations ++ lines) begins
    ∙ ap (λ (g : Grouped). made [] (record { first = first; continuations = g.front } ∷ g.groups)) (grouped_all continuations lines goes_on)

groups_alone : (groups : List Group) → All IsFolded groups → grouped (flat_map group_lines groups) ≡ made [] groups
groups_alone [] h = grouped_nil
groups_alone (g ∷ groups) h =
    let here : IsFolded g = all_head IsFolded g groups h in
    let rest = groups_alone groups (all_tail IsFolded g groups h) in
    grouped_group g.first g.continuations (flat_map group_lines groups) here.begins here.goes_on
    ∙ ap (λ (r : Grouped). made [] (record { first = g.first; continuations = g.continuations ++ r.front } ∷ r.groups)) rest
    ∙ ap (λ t. made [] (record { first = g.first; continuations = t } ∷ groups)) (append-nil g.continuations)

-- lines are grouped in one way
pub grouped_only : (lines front : List (List ℕ)) (groups : List Group) → IsGrouped lines front groups → grouped lines ≡ made front groups
grouped_only lines front groups h =
    ap grouped h.in_order ∙ grouped_all front (flat_map group_lines groups) h.in_front
    ∙ ap (λ (r : Grouped). made (front ++ r.front) r.groups) (groups_alone groups h.folded)
    ∙ ap (λ t. made t groups) (append-nil front)

-- and the function finds it
pub grouped_is : (lines : List (List ℕ)) → IsGrouped lines (grouped lines).front (grouped lines).groups
grouped_is [] = subst (λ (g : Grouped). IsGrouped [] g.front g.groups) (sym grouped_nil) (record {
  in_order = refl;
  in_front = pass_nil is_continuation;
  folded = All-nil IsFolded;
})
grouped_is (line ∷ lines) =
    let rest : IsGrouped lines (grouped lines).front (grouped lines).groups = grouped_is lines in
    ⊎_elim
    (λ yes. subst (λ (g : Grouped). IsGrouped (line ∷ lines) g.front g.groups) (sym (grouped_on line lines yes)) (record {
      in_order = ap (λ t. line ∷ t) rest.in_order;
      in_front = pass_cons is_continuation line (grouped lines).front yes rest.in_front;
      folded = rest.folded;
    }))
    (λ no. subst (λ (g : Grouped). IsGrouped (line ∷ lines) g.front g.groups) (sym (grouped_new line lines no)) (record {
      in_order = ap (λ t. line ∷ t) rest.in_order;
      in_front = pass_nil is_continuation;
      folded = All-cons IsFolded (record { first = line; continuations = (grouped lines).front }) (grouped lines).groups
          (record { begins = no; goes_on = rest.in_front }) rest.folded;
    }))
    (cases_Bool (is_continuation line))
