-- Digits and the number that they spell.
use Rattle.std.specs.Prelude.{ℕ, ◌^◌, ◌&&◌, cond, nat_lt, List, Option, None, Some}
use Rattle.std.specs.List.{list_all}
use Rattle.std.specs.Char.{is_ascii_digit}
use Rattle.vcd_model.specs.Bytes.{decimal_value, is_decimal}

-- the number that decimal digits spell, `None` if a byte is no digit; no digits spell 0
abbrev pub spelled : List ℕ → Option ℕ
spelled ds = cond (list_all is_ascii_digit ds) (Some (decimal_value ds)) None

-- the number that one or more digits spell, if it is below 2^64
abbrev pub spelled_below : List ℕ → Option ℕ
spelled_below ds = cond (is_decimal ds && nat_lt (decimal_value ds) (2 ^ 64)) (Some (decimal_value ds)) None
