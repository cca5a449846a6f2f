-- The kinds of records and the bytes that stand for them (FastCGI 1.0 section 8).
use Rattle.std.specs.Prelude.{ℕ, ◌==◌, if◌then◌else◌, Option, Some, None}
use Rattle.fcgi_record.specs.declared.record_kind.RecordKind.{RecordKind}
use Rattle.fcgi_record.specs.declared.record_kind.RecordKind.TheVariants.{BeginRequest, AbortRequest, EndRequest, Params, Stdin, Stdout, Stderr, ExtraData, GetValues, GetValuesResult, UnknownType}

abbrev pub kind_byte : RecordKind → ℕ
kind_byte BeginRequest = 1
kind_byte AbortRequest = 2
kind_byte EndRequest = 3
kind_byte Params = 4
kind_byte Stdin = 5
kind_byte Stdout = 6
kind_byte Stderr = 7
kind_byte ExtraData = 8
kind_byte GetValues = 9
kind_byte GetValuesResult = 10
kind_byte UnknownType = 11

-- the kind that a byte stands for; none for 0 and above 11
abbrev pub kind_of : ℕ → Option RecordKind
kind_of b =
    if b == 1 then Some BeginRequest
    else if b == 2 then Some AbortRequest
    else if b == 3 then Some EndRequest
    else if b == 4 then Some Params
    else if b == 5 then Some Stdin
    else if b == 6 then Some Stdout
    else if b == 7 then Some Stderr
    else if b == 8 then Some ExtraData
    else if b == 9 then Some GetValues
    else if b == 10 then Some GetValuesResult
    else if b == 11 then Some UnknownType
    else None
