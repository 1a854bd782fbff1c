-- What a call that gives a value says.
use Rattle.std.proofs.Common.{◌≡◌, Result, Ok, Err, OnOk, is_ok}

-- what follows from what holds where a call gives a value holds there
pub on-ok-by : {A E : Type 0} (r : Result A E) (Q : Type 0) → (((P : Type 0) → OnOk r P → P) → Q) → OnOk r Q
on-ok-by (Ok x) Q by = by (λ P holds. holds)
on-ok-by (Err e) Q by = tt

-- what holds where one call gives a value holds where another does that gives one with it
pub on-ok-same : {A E F : Type 0} (P : Type 0) (r : Result A E) (q : Result A F) → is_ok q ≡ is_ok r → OnOk r P → OnOk q P
on-ok-same P (Ok x) (Ok y) same holds = holds
on-ok-same P (Err e) (Ok y) same holds = absurd (cc)
on-ok-same P (Ok x) (Err f) same holds = tt
on-ok-same P (Err e) (Err f) same holds = tt

pub ok-then : {A E : Type 0} (r : Result A E) (P Q : Type 0) → (P → Q) → OnOk r P → OnOk r Q
ok-then (Ok x) P Q so holds = so holds
ok-then (Err e) P Q so holds = tt

-- what holds holds where a call gives a value
pub on-ok : {A E P : Type 0} (r : Result A E) → P → OnOk r P
on-ok (Ok x) holds = holds
on-ok (Err e) holds = tt

-- what follows from one or two things that hold where a call gives a value
pub ok-one : {A E P Q : Type 0} (r : Result A E) → OnOk r P → (P → Q) → OnOk r Q
ok-one (Ok x) p so = so p
ok-one (Err e) p so = tt

pub ok-both : {A E P Q R : Type 0} (r : Result A E) → OnOk r P → OnOk r Q → (P → Q → R) → OnOk r R
ok-both (Ok x) p q so = so p q
ok-both (Err e) p q so = tt

-- what holds where a call gives a value
pub holds-at : {A E P : Type 0} (r : Result A E) (x : A) → r ≡ Ok x → OnOk r P → P
holds-at (Ok y) x is holds = holds
holds-at (Err e) x is holds = absurd (cc is)
