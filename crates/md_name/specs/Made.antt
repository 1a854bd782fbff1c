-- The unique names that a deliverer makes, as "Using maildir format" has them.
use Rattle.std.specs.Prelude.{◌≡◌, ℕ, Bool, not, ◌&&◌, ◌==◌, nat_lt, nat_le, List, []}
use Rattle.std.specs.Prelude.{◌∷◌, ◌++◌, length, Option, None, Some, if◌then◌else◌, codes, flat_map}
use Rattle.std.specs.List.{list_any}
use Rattle.std.specs.Fmt.{decimal}
use Rattle.md_name.specs.declared.error.NameError.{NameError}
use Rattle.md_name.specs.declared.error.NameError.TheVariants.{BadHost, BadMicro, NoMemory}
use Rattle.md_name.specs.declared.unique.UniqueParts.{UniqueParts}
use Rattle.md_name.specs.Names.{is_colon, is_slash, is_terminator}

-- the byte of a backslash
abbrev pub is_backslash : ℕ → Bool
is_backslash b = b == 92

-- a slash is written `\057` and a colon `\072`
abbrev pub escape : ℕ → List ℕ
escape b =
    if is_slash b then 92 ∷ codes "057"
    else (if is_colon b then 92 ∷ codes "072" else b ∷ [])

-- a host with its slashes and colons written so
unfoldable pub escaped : List ℕ → List ℕ
escaped host = flat_map escape host

-- SEC.MmicroPpidQcount.host, each number in decimal without leading zeros
unfoldable pub made_unique : ℕ → ℕ → ℕ → ℕ → List ℕ → List ℕ
made_unique sec micro pid count host =
    decimal sec ++ codes ".M" ++ decimal micro ++ codes "P" ++ decimal pid ++ codes "Q" ++ decimal count
    ++ codes "." ++ escaped host

-- the unique name that these parts make
abbrev pub name_of : UniqueParts → List ℕ
name_of parts = made_unique parts.sec parts.micro parts.pid parts.count parts.host.now

-- own: a host isn't empty, has at most 100 bytes once escaped, and none of its bytes is NUL, LF or CR
unfoldable pub is_host : List ℕ → Bool
is_host host = nat_lt 0 (length host) && nat_le (length (escaped host)) 100 && not (list_any is_terminator host)

-- why no name is made of these, the first cause first
abbrev pub make_refusal : ℕ → List ℕ → Option NameError
make_refusal micro host =
    if nat_le 1000000 micro then Some BadMicro
    else (if is_host host then None else Some BadHost)

-- why no name is made of these parts, or none
abbrev pub refusal_of : UniqueParts → Option NameError
refusal_of parts = make_refusal parts.micro parts.host.now

-- the error that is given: that refusal, or where there is none, out of memory
abbrev pub IsRefusal : Option NameError → NameError → Type 0
IsRefusal None e = e ≡ NoMemory
IsRefusal (Some refusal) e = e ≡ refusal
