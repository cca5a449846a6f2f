-- The pairs of a request (RFC 3875 section 4.1).
use Rattle.std.specs.Prelude.{ℕ, nat_eq, Bool, not, ◌||◌, ◌&&◌, ◌==◌, if◌then◌else◌, List, [], ◌∷◌, ◌++◌, map, Option, Some, None, codes, decimal}
use Rattle.std.specs.List.{list_any, ends_with, flat_map}
use Rattle.std.specs.Char.{to_ascii_uppercase}
use Rattle.std.specs.Str.{bytes_eq}
use Rattle.http_model.specs.Head.{Field}
use Rattle.http_model.specs.Fields.{is_named, is_named_among, has_field}
use Rattle.http_model.specs.declared.Framing.{Framing}
use Rattle.http_model.specs.declared.Framing.TheVariants.{Absent, Length, Chunked, ToClose}
use Rattle.uri_parts.specs.Target.{TargetParts, target_parts}
use Rattle.fcgi_model.specs.Application.{Application, param_field}
use Rattle.fcgi_model.specs.Head.{RequestHead, first_value}

-- a name and a value
abbrev pub Pair : Type 0
Pair = List ℕ × List ℕ

-- ---- of the request line

-- `/` in the place of a path that is empty or `*`
abbrev pub script_name : (path : List ℕ) → List ℕ
script_name [] = codes "/"
script_name (b ∷ path) = if bytes_eq (b ∷ path) (codes "*") then codes "/" else b ∷ path

-- nothing without a `?`
abbrev pub query_of : Option (List ℕ) → List ℕ
query_of None = []
query_of (Some query) = query

abbrev pub call_pairs : (method target : List ℕ) → List Pair
call_pairs method target =
    (codes "GATEWAY_INTERFACE", codes "CGI/1.1") ∷ (codes "REQUEST_METHOD", method) ∷ (codes "SERVER_PROTOCOL", codes "HTTP/1.1") ∷ (codes "REQUEST_URI", target) ∷ []

-- the file behind a path that ends in `/`
abbrev pub with_index : Option (List ℕ) → (path : List ℕ) → List ℕ
with_index None path = path
with_index (Some file) path = if ends_with nat_eq path (codes "/") then path ++ file else path

abbrev pub script_or : (script index : Option (List ℕ)) → (path : List ℕ) → List ℕ
script_or None index path = with_index index path
script_or (Some file) index path = file

-- the file that is asked: always the same one, or that of the path
abbrev pub script_of : Application → (path : List ℕ) → List ℕ
script_of application path = script_or application.script application.index path

-- of a target with these parts
abbrev pub script_pairs : Application → TargetParts → List Pair
script_pairs application parts =
    let file = script_of application (script_name parts.path) in
    (codes "SCRIPT_NAME", file) ∷ (codes "SCRIPT_FILENAME", application.root ++ file) ∷ (codes "DOCUMENT_ROOT", application.root) ∷ (codes "QUERY_STRING", query_of parts.query) ∷ []

-- ---- of the body

-- the length of a body that has one
abbrev pub length_pairs : Framing → List Pair
length_pairs Absent = []
length_pairs (Length n) = (codes "CONTENT_LENGTH", decimal n) ∷ []
length_pairs Chunked = []
length_pairs ToClose = []

-- the type of the body, where a field tells it
abbrev pub type_pairs : Option (List ℕ) → List Pair
type_pairs None = []
type_pairs (Some kind) = (codes "CONTENT_TYPE", kind) ∷ []

-- ---- of the fields

-- The fields that aren't handed on by their names: two have pairs of their own, two are said of one connection, and an application would take `HTTP_PROXY` for
-- the proxy that it is to use.
abbrev pub kept_back : List (List ℕ)
kept_back = codes "content-length" ∷ codes "content-type" ∷ codes "transfer-encoding" ∷ codes "connection" ∷ codes "proxy" ∷ []

abbrev pub has_underscore : List ℕ → Bool
has_underscore name = list_any (λ b. b == 95) name

-- A name with `_` would be taken for the one with `-` in its place.
abbrev pub is_handed : Field → Bool
is_handed field = not (is_named_among kept_back field || has_underscore field.0)

abbrev pub variable_byte : ℕ → ℕ
variable_byte b = if b == 45 then 95 else to_ascii_uppercase b

-- `HTTP_`, and the name in upper case with `_` for `-`
abbrev pub variable_name : List ℕ → List ℕ
variable_name name = codes "HTTP_" ++ map variable_byte name

-- what the later fields of a name add to the value of the first one
abbrev pub later_values : (name : List ℕ) → List Field → List ℕ
later_values name [] = []
later_values name (field ∷ fields) = (if is_named name field then codes ", " ++ field.1 else []) ++ later_values name fields

-- the pair of a field that is handed on and the first of its name, with these in front of it and these behind it
abbrev pub field_pair : (before : List Field) → Field → (later : List Field) → List Pair
field_pair before field later =
    if is_handed field && not (has_field field.0 before) then (variable_name field.0, field.1 ++ later_values field.0 later) ∷ [] else []

-- the pairs of the fields behind these
abbrev pub field_pairs : (before : List Field) → List Field → List Pair
field_pairs before [] = []
field_pairs before (field ∷ fields) = field_pair before field fields ++ field_pairs (before ++ field ∷ []) fields

-- ---- of a head

-- of fields, and of a body that is framed so
abbrev pub rest_pairs : List Field → Framing → List Pair
rest_pairs fields framing = length_pairs framing ++ (type_pairs (first_value (codes "content-type") fields) ++ field_pairs [] fields)

-- the pair of this name, where a field is there for it
abbrev pub param_pair : (name : List ℕ) → (value : Option (List ℕ)) → List Pair
param_pair name None = []
param_pair name (Some value) = (name, value) ∷ []

-- the pairs of these names, in order
abbrev pub param_pairs : (names : List (List ℕ)) → List Field → List Pair
param_pairs names fields = flat_map (λ name. param_pair name (first_value (param_field name) fields)) names

-- the pairs of a request, in order
abbrev pub pairs_of : Application → RequestHead → Framing → List Pair
pairs_of application head framing =
    call_pairs head.method head.target
    ++ (script_pairs application (target_parts head.target) ++ (rest_pairs head.fields framing ++ param_pairs application.params head.fields))
