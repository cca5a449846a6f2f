-- Numbers of a canonical text that are settings, and what is read of them.
use Rattle.std.specs.Prelude.{◌≡◌, ℕ, ◌^◌, ◌<◌, ◌≤◌, ◌++◌, Ok, codes}
use Rattle.std.specs.Fmt.{decimal}
use Rattle.cfg_parse.specs.Numbers.{number_up_to, size_of, most_time, time_of}
use Rattle.cfg_parse.specs.Addresses.{port_of}
use Rattle.cfg_parse.specs.Limits.{most_digits}
use Rattle.cfg_parse.specs.Filters.{count_of}

-- a number that is no more than the most that counts
abbrev pub NumbersReadBack : Type 0
NumbersReadBack = (most n : ℕ) → n ≤ most → n < 2 ^ 64 → number_up_to most (decimal n) ≡ Ok n

-- a number within limits
abbrev pub SizesReadBack : Type 0
SizesReadBack = (least most n : ℕ) → least ≤ n → n ≤ most → n < 2 ^ 64 → size_of least most (decimal n) ≡ Ok n

-- a time in milliseconds that is no longer than the longest
abbrev pub TimesReadBack : Type 0
TimesReadBack = (n : ℕ) → n ≤ most_time → time_of (decimal n ++ codes "ms") ≡ Ok n

abbrev pub PortsReadBack : Type 0
PortsReadBack = (n : ℕ) → 1 ≤ n → n ≤ 65535 → port_of (decimal n) ≡ Ok n

-- a number of bytes, which has no more digits than are read
abbrev pub CountsReadBack : Type 0
CountsReadBack = (n : ℕ) → n < 10 ^ most_digits → count_of (decimal n) ≡ Ok n
