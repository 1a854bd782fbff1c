-- Line ends by LF and by CRLF.
use Rattle.std.proofs.Common.{◌≡◌, ◌≢◌, ℕ, List, [], ◌∷◌, ◌++◌, refl, sym, ap, ◌∙◌, arith, ⊎_elim}
use Rattle.std.proofs.lemmas.Bool.Decides.{nat_tests}
use Rattle.std.proofs.lemmas.Bool.{cases_eq}
use Rattle.std.specs.Prelude.{All}
use Rattle.std.specs.List.{onto_first}
use Rattle.md_head.specs.Header.{lines_of}
use Rattle.md_head.specs.Laws.{crlf_byte, with_crlf}
use Rattle.md_head.proofs.Lines.{step_feed, step_return, step_plain}
use Rattle.md_head.proofs.Alls.{all_head, all_tail}

feed_returns : (b : ℕ) → b ≡ 10 → crlf_byte b ≡ 13 ∷ 10 ∷ []
feed_returns b e = grind (arith, nat_tests)

other_stays : (b : ℕ) → b ≢ 10 → crlf_byte b ≡ b ∷ []
other_stays b e = grind (arith, nat_tests)

pub crlf_lines : (text : List ℕ) → All (λ b. b ≢ 13) text → lines_of (with_crlf text) ≡ lines_of text
crlf_lines [] h = refl
crlf_lines (b ∷ text) h =
    let rest = crlf_lines text (all_tail (λ b. b ≢ 13) b text h) in
    let other : b ≢ 13 = all_head (λ b. b ≢ 13) b text h in
    ⊎_elim
    (λ feed.
    ap (λ t. lines_of (t ++ with_crlf text)) (feed_returns b feed)
    ∙ step_return 13 (10 ∷ with_crlf text) refl refl ∙ step_feed 10 (with_crlf text) refl
    ∙ ap (λ ls. [] ∷ ls) rest ∙ sym (step_feed b text feed))
    (λ plain.
    ap (λ t. lines_of (t ++ with_crlf text)) (other_stays b plain)
    ∙ step_plain b (with_crlf text) plain (λ cr. absurd (other cr))
    ∙ ap (onto_first b) rest ∙ sym (step_plain b text plain (λ cr. absurd (other cr))))
    (cases_eq b 10)
