-- Sizes and times as words spell them.
use Rattle.std.specs.Prelude.{ℕ, ◌+◌, ◌*◌, ◌/◌, List, [], length, take, drop, not, ◌||◌, ◌==◌, nat_lt, min, if◌then◌else◌, Option, Some, None, Result, Ok, Err, codes}
use Rattle.std.specs.List.{list_all, prefix_len}
use Rattle.std.specs.Char.{is_ascii_digit}
use Rattle.std.specs.Str.{bytes_eq}
use Rattle.std.specs.Str.Parse.{digits_value}
use Rattle.cfg_parse.specs.declared.fault.CfgKind.{CfgKind}
use Rattle.cfg_parse.specs.declared.fault.CfgKind.TheVariants.{Argument, Limit}
use Rattle.cfg_parse.specs.Reading.{◌>>=◌}

-- a number in one or more decimal digits; one above `most` counts as `most`
unfoldable pub number_up_to : (most : ℕ) → List ℕ → Result ℕ CfgKind
number_up_to most word =
    if length word == 0 || not (list_all is_ascii_digit word) then Err Argument
    else Ok (min (digits_value 10 word) most)

-- a number within limits
unfoldable pub size_of : (least most : ℕ) → List ℕ → Result ℕ CfgKind
size_of least most word =
    number_up_to (most + 1) word >>= λ size. if nat_lt size least || nat_lt most size then Err Limit else Ok size

-- the most milliseconds of a time: what is longer counts as this, some 24 days
abbrev pub most_time : ℕ
most_time = 2147483647

-- the most of a unit that is told apart: so many microseconds are more than the longest time
abbrev pub most_count : ℕ
most_count = 4000000000000

-- how many milliseconds a unit of one or more has; nothing is a millisecond
unfoldable pub unit_of : List ℕ → Option ℕ
unit_of name =
    if bytes_eq name [] || bytes_eq name (codes "ms") then Some 1
    else (if bytes_eq name (codes "s") then Some 1000
    else (if bytes_eq name (codes "m") then Some 60000
    else (if bytes_eq name (codes "h") then Some 3600000
    else (if bytes_eq name (codes "d") then Some 86400000
    else None))))

abbrev pub times_unit : Option ℕ → ℕ → Result ℕ CfgKind
times_unit (Some length) count = Ok (min (count * length) most_time)
times_unit None count = Err Argument

-- so many of a unit, in milliseconds; a part of a millisecond counts as one
unfoldable pub in_milliseconds : List ℕ → ℕ → Result ℕ CfgKind
in_milliseconds unit count =
    if bytes_eq unit (codes "us") then Ok (min ((count + 999) / 1000) most_time)
    else times_unit (unit_of unit) count

-- a time in milliseconds: one or more digits, then a unit or nothing
unfoldable pub time_of : List ℕ → Result ℕ CfgKind
time_of word =
    number_up_to most_count (take (prefix_len is_ascii_digit word) word)
    >>= λ count. in_milliseconds (drop (prefix_len is_ascii_digit word) word) count
