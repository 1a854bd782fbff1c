-- The messages of a listing, and findings, as bytes, one more at a time, and what a buffer has of them.
use Rattle.std.proofs.Common.{ℕ, ◌≡◌, ◌≤◌, ◌<◌, ◌+◌, ◌++◌, List, [], ◌∷◌, All, length, take, get_or, refl, sym, ap, subst, ◌∙◌}
use Rattle.std.proofs.lemmas.Grind.{flat_map-append}
use Rattle.std.proofs.lemmas.List.{length-append, append-nil, take_more}
use Rattle.std.proofs.lemmas.List.Elements.{All-append, All-cons, All-nil}
use Rattle.std.proofs.lemmas.List.Folds.{length-flat_map-take}
use Rattle.std.specs.List.{flat_map}
use Rattle.md_dirs.specs.Path.{place_index}
use Rattle.md_listing.specs.declared.entry.Entry.{Entry}
use Rattle.md_ffi.specs.Reading.{four_bytes, eight_bytes, entry_bytes, entries_bytes, HasShortName}

-- what stands before a name takes 16 bytes
pub length_header : (p l s : ℕ) → length (four_bytes p ++ four_bytes l ++ eight_bytes s) ≡ 16
unfolding four_bytes eight_bytes
length_header p l s = refl

pub length_entry : (e : Entry) → length (entry_bytes e) ≡ 16 + length e.name
length_entry e =
    let before : List ℕ = four_bytes (place_index e.place) ++ four_bytes (length e.name) ++ eight_bytes e.size in
    length-append before e.name ∙ ap (λ (n : ℕ). n + length e.name) (length_header (place_index e.place) (length e.name) e.size)

next-take : {X : Type 0} (xs : List X) (i : ℕ) (x : X) → i < length xs → x ≡ get_or xs i x → take (i + 1) xs ≡ take i xs ++ x ∷ []
next-take {X} xs i x less is = take_more xs i x less ∙ ap (λ (y : X). take i xs ++ y ∷ []) (sym is)

-- the bytes of one thing more
pub bytes_more : {X : Type 0} (bytes_of : X → List ℕ) (xs : List X) (i : ℕ) (x : X) → i < length xs → x ≡ get_or xs i x
    → flat_map bytes_of (take (i + 1) xs) ≡ flat_map bytes_of (take i xs) ++ bytes_of x
bytes_more bytes_of xs i x less is =
    ap (flat_map bytes_of) (next-take xs i x less is) ∙ flat_map-append bytes_of (take i xs) (x ∷ [])
    ∙ ap (λ (bytes : List ℕ). flat_map bytes_of (take i xs) ++ bytes) (append-nil (bytes_of x))

pub one_more : (es : List Entry) (i : ℕ) (e : Entry) → i < length es → e ≡ get_or es i e
    → flat_map entry_bytes (take (i + 1) es) ≡ flat_map entry_bytes (take i es) ++ entry_bytes e
one_more es i e = bytes_more entry_bytes es i e

pub short_more : (es : List Entry) (i : ℕ) (e : Entry) → i < length es → e ≡ get_or es i e
    → HasShortName e → All HasShortName (take i es) → All HasShortName (take (i + 1) es)
short_more es i e less is short all =
    subst (All HasShortName) (sym (next-take es i e less is))
    (All-append HasShortName (take i es) (e ∷ []) all (All-cons HasShortName e [] short (All-nil HasShortName)))

pub length_more : (es : List Entry) (i : ℕ) (e : Entry) → i < length es → e ≡ get_or es i e
    → length (flat_map entry_bytes (take (i + 1) es)) ≡ length (flat_map entry_bytes (take i es)) + length (entry_bytes e)
length_more es i e less is = ap length (one_more es i e less is) ∙ length-append (flat_map entry_bytes (take i es)) (entry_bytes e)

-- what is before a message and the message take no more than all
pub has_room : (es : List Entry) (i : ℕ) (e : Entry) → i < length es → e ≡ get_or es i e
    → length (flat_map entry_bytes (take i es)) + length (entry_bytes e) ≤ length (entries_bytes es)
has_room es i e less is =
    subst (λ (x : Entry). length (flat_map entry_bytes (take i es)) + length (entry_bytes x) ≤ length (entries_bytes es)) (sym is)
    (length-flat_map-take entry_bytes es i e less)
