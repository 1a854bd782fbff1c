-- Three ways in which a call changes what directories show: not at all, one message put, one message dropped.
use Rattle.std.proofs.Common.{ℕ, ◌≡◌, ◌≢◌, List, Some, None, true, refl, sym, ap, ◌∙◌}
use Rattle.std.specs.FinMap as finmap
use Rattle.std.proofs.lemmas.Cmp.{nat_list_cmp_total}
use Rattle.std.proofs.lemmas.Map.Lookups.{exact_bytes}
use Rattle.md_core.proofs.Values.{State, file_at, Path, unique_of, info_text, Entry, Mailbox, mailbox_of, is_message, entry_of, HasOnePath, get}
use Rattle.lists.proofs.Maps as maps
use Rattle.md_core.proofs.Induction.Good.{bytes_at}
use Rattle.md_core.proofs.Mailbox.Shown.{Shows, mailbox-shows, shows-mailbox, same_mailbox}

-- what the file of a path holds stays
abbrev pub BytesStay : State → State → Path → Type 0
BytesStay s s' q = (m : ℕ) → file_at s q ≡ Some m → bytes_at s' m ≡ bytes_at s m

-- what files of messages hold stays
abbrev pub SameBytes : State → State → Type 0
SameBytes s s' = (q : Path) → is_message q ≡ true → BytesStay s s' q

-- each message stays
pub record Keeps (s s' : State) : Type 0 where
  pub names : (q : Path) → is_message q ≡ true → file_at s' q ≡ file_at s q
  pub bytes : SameBytes s s'

-- the message of a name is at p from then on, new or moved
pub record Puts (s s' : State) (p : Path) (n : ℕ) : Type 0 where
  pub message : is_message p ≡ true
  pub there : file_at s' p ≡ Some n
  pub others : (q : Path) → is_message q ≡ true → unique_of q.name ≢ unique_of p.name → file_at s' q ≡ file_at s q
  pub alone : (q : Path) (m : ℕ) → is_message q ≡ true → unique_of q.name ≡ unique_of p.name → file_at s' q ≡ Some m → q ≡ p
  pub bytes : SameBytes s s'

-- the message of a name is gone, and its file may be
pub record Drops (s s' : State) (u : List ℕ) : Type 0 where
  pub gone : (q : Path) → is_message q ≡ true → unique_of q.name ≡ u → file_at s' q ≡ None
  pub others : (q : Path) → is_message q ≡ true → unique_of q.name ≢ u → file_at s' q ≡ file_at s q
  pub bytes : (q : Path) → is_message q ≡ true → unique_of q.name ≢ u → BytesStay s s' q

entry_same : (s s' : State) (p : Path) (n : ℕ) → bytes_at s' n ≡ bytes_at s n → entry_of s' p n ≡ entry_of s p n
entry_same s s' p n same = λ i. record { folder = p.folder; place = p.place; info = info_text p.name; bytes = same i }

-- a message that stays in its place is shown as before
forward : (s s' : State) (u : List ℕ) (e : Entry) (h : Shows s u e) → BytesStay s s' h.path → file_at s' h.path ≡ file_at s h.path → Shows s' u e
forward s s' u e h bytes stays = record {
  path = h.path;
  file = h.file;
  there = stays ∙ h.there;
  message = h.message;
  unique = h.unique;
  entry = entry_same s s' h.path h.file (bytes h.file h.there) ∙ h.entry;
}

backward : (s s' : State) (u : List ℕ) (e : Entry) (h : Shows s' u e) → BytesStay s s' h.path → file_at s' h.path ≡ file_at s h.path → Shows s u e
backward s s' u e h bytes stays =
    let there : file_at s h.path ≡ Some h.file = sym stays ∙ h.there in
    record {
      path = h.path;
      file = h.file;
      there = there;
      message = h.message;
      unique = h.unique;
      entry = sym (entry_same s s' h.path h.file (bytes h.file there)) ∙ h.entry;
    }

pub one-keeps : (s s' : State) → HasOnePath s → Keeps s s' → HasOnePath s'
one-keeps s s' one k p q m n atp atq mp mq same = one p q m n (sym (k.names p mp) ∙ atp) (sym (k.names q mq) ∙ atq) mp mq same

pub mailbox-keeps : (s s' : State) → HasOnePath s → Keeps s s' → mailbox_of s' ≡ mailbox_of s
mailbox-keeps s s' one k = same_mailbox (mailbox_of s') (mailbox_of s)
    (λ u e h. let g = mailbox-shows s' u e h in shows-mailbox s u e one (backward s s' u e g (k.bytes g.path g.message) (k.names g.path g.message)))
    (λ u e h. let g = mailbox-shows s u e h in shows-mailbox s' u e (one-keeps s s' one k)
    (forward s s' u e g (k.bytes g.path g.message) (k.names g.path g.message)))

-- whether two names are one
pub by_name : {C : Type 0} (u v : List ℕ) → (u ≡ v → C) → (u ≢ v → C) → C
by_name = maps.by_key nat_list_cmp_total exact_bytes

-- what a mailbox has at a name that was put or dropped, and at another
at_put : (m : Mailbox) (u v : List ℕ) (e : Entry) → v ≡ u → get (finmap.insert m u e) v ≡ Some e
at_put = maps.at_put nat_list_cmp_total exact_bytes

beside_put : (m : Mailbox) (u v : List ℕ) (e : Entry) → v ≢ u → get (finmap.insert m u e) v ≡ get m v
beside_put = maps.beside_put nat_list_cmp_total exact_bytes

at_drop : (m : Mailbox) (u v : List ℕ) → v ≡ u → get (finmap.remove m u) v ≡ None
at_drop = maps.at_drop nat_list_cmp_total exact_bytes

beside_drop : (m : Mailbox) (u v : List ℕ) → v ≢ u → get (finmap.remove m u) v ≡ get m v
beside_drop = maps.beside_drop nat_list_cmp_total exact_bytes

pub one-puts : (s s' : State) (p : Path) (n : ℕ) → HasOnePath s → Puts s s' p n → HasOnePath s'
one-puts s s' p n one k x y i j atx aty mx my same =
    by_name (unique_of x.name) (unique_of p.name)
    (λ is. k.alone x i mx is atx ∙ sym (k.alone y j my (sym same ∙ is) aty))
    (λ not. one x y i j (sym (k.others x mx not) ∙ atx) (sym (k.others y my (λ h. not (same ∙ h))) ∙ aty) mx my same)

pub mailbox-puts : (s s' : State) (p : Path) (n : ℕ) → HasOnePath s → Puts s s' p n →
    mailbox_of s' ≡ finmap.insert (mailbox_of s) (unique_of p.name) (entry_of s' p n)
mailbox-puts s s' p n one k =
    let u = unique_of p.name in
    let e = entry_of s' p n in
    let one' = one-puts s s' p n one k in
    let here : Shows s' u e = record { path = p; file = n; there = k.there; message = k.message; unique = refl; entry = refl } in
    same_mailbox (mailbox_of s') (finmap.insert (mailbox_of s) u e)
    (λ v f h.
    let g = mailbox-shows s' v f h in
    by_name v u
    (λ is.
    let found : get (mailbox_of s') v ≡ Some e = ap (get (mailbox_of s')) is ∙ shows-mailbox s' u e one' here in
    at_put (mailbox_of s) u v e is ∙ sym found ∙ h)
    (λ not. beside_put (mailbox_of s) u v e not ∙ shows-mailbox s v f one (backward s s' v f g (k.bytes g.path g.message)
    (k.others g.path g.message (λ is. not (sym g.unique ∙ is))))))
    (λ v f h.
    by_name v u
    (λ is. ap (get (mailbox_of s')) is ∙ shows-mailbox s' u e one' here ∙ sym (at_put (mailbox_of s) u v e is) ∙ h)
    (λ not.
    let g = mailbox-shows s v f (sym (beside_put (mailbox_of s) u v e not) ∙ h) in
    shows-mailbox s' v f one' (forward s s' v f g (k.bytes g.path g.message) (k.others g.path g.message (λ is. not (sym g.unique ∙ is))))))

pub one-drops : (s s' : State) (u : List ℕ) → HasOnePath s → Drops s s' u → HasOnePath s'
one-drops s s' u one k x y i j atx aty mx my same =
    by_name (unique_of x.name) u
    (λ is. let none = k.gone x mx is in cc)
    (λ not. one x y i j (sym (k.others x mx not) ∙ atx) (sym (k.others y my (λ h. not (same ∙ h))) ∙ aty) mx my same)

pub mailbox-drops : (s s' : State) (u : List ℕ) → HasOnePath s → Drops s s' u → mailbox_of s' ≡ finmap.remove (mailbox_of s) u
mailbox-drops s s' u one k =
    same_mailbox (mailbox_of s') (finmap.remove (mailbox_of s) u)
    (λ v f h.
    let g = mailbox-shows s' v f h in
    by_name v u
    (λ is. let none = k.gone g.path g.message (g.unique ∙ is) in let there = g.there in cc)
    (λ not. beside_drop (mailbox_of s) u v not ∙ shows-mailbox s v f one (backward s s' v f g
    (k.bytes g.path g.message (λ is. not (sym g.unique ∙ is))) (k.others g.path g.message (λ is. not (sym g.unique ∙ is))))))
    (λ v f h.
    by_name v u
    (λ is. let none = at_drop (mailbox_of s) u v is in cc)
    (λ not.
    let g = mailbox-shows s v f (sym (beside_drop (mailbox_of s) u v not) ∙ h) in
    shows-mailbox s' v f (one-drops s s' u one k) (forward s s' v f g
    (k.bytes g.path g.message (λ is. not (sym g.unique ∙ is))) (k.others g.path g.message (λ is. not (sym g.unique ∙ is))))))
