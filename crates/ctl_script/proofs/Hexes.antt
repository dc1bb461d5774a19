-- What `{:016x}` writes.
use Rattle.std.proofs.Common.{◌≡◌, ◌-◌, ◌^◌, ℕ, [], false, length, refl, arith}
use Rattle.std.specs.Fmt.{digits, char_count, padded_integral, format_spec}
use Rattle.std.specs.Str.{chars}
use Rattle.std.proofs.lemmas.List.{append-nil}
use Rattle.ctl_script.specs.Print.{hex16}

no_chars : char_count [] ≡ 0
unfolding char_count chars
no_chars = refl

pub hex_padded : (n : ℕ) → padded_integral (format_spec 32 0 4 16 (2 ^ 64 - 1)) false [] (digits 16 false n) ≡ hex16 n
unfolding padded_integral
hex_padded n =
    let width : 16 - length (digits 16 false n) - 0 - 0 ≡ 16 - length (digits 16 false n) = omega arith in
    rw (append-nil (digits 16 false n), no_chars, width) refl
