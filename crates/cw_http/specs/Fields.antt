-- What the fields of a request's head say of its body (RFC 9112, 6) and of its connection (RFC 9112, 9.3). Names, and
-- the word `close`, are the same in upper and lower case.
use Rattle.std.specs.Prelude.{ℕ, ◌==◌, ◌||◌, Bool, true, false, nat_lt, List, [], ◌∷◌, length, map, codes, bytes_eq}
use Rattle.std.specs.Prelude.{Option, Some, None, Result, Ok, Err, if◌then◌else◌}
use Rattle.std.specs.Char.{is_ascii_digit, to_ascii_lowercase}
use Rattle.std.specs.List.{list_all, list_any}
use Rattle.cw_types.specs.Decimal.{read_on}

-- fields, each with its name and its value
abbrev pub Fields : Type 0
Fields = List (List ℕ × List ℕ)

-- the same text but for the case of letters
abbrev pub is_same_text : List ℕ → List ℕ → Bool
is_same_text a b = bytes_eq (map to_ascii_lowercase a) (map to_ascii_lowercase b)

-- the value of a field, if it has this name
abbrev pub value_of : List ℕ → List ℕ × List ℕ → Option (List ℕ)
value_of name field = if is_same_text field.0 name then Some field.1 else None

-- values with one more in front, if it is there
abbrev pub in_front : Option (List ℕ) → List (List ℕ) → List (List ℕ)
in_front None values = values
in_front (Some value) values = value ∷ values

-- the values of the fields of this name, in order
abbrev pub values_of : List ℕ → Fields → List (List ℕ)
values_of name [] = []
values_of name (field ∷ fields) = in_front (value_of name field) (values_of name fields)

-- whether there is none
abbrev pub is_none : List (List ℕ) → Bool
is_none [] = true
is_none (value ∷ values) = false

-- the value of a Connection field that closes
abbrev pub is_close : List ℕ → Bool
is_close value = is_same_text value (codes "close")

-- 1 to 18 digits
abbrev pub is_length : List ℕ → Bool
is_length text =
    if length text == 0 then false else if nat_lt 18 (length text) then false else list_all is_ascii_digit text

-- the length that a text is
abbrev pub length_of : List ℕ → Option ℕ
length_of text = if is_length text then Some (read_on 0 text) else None

-- the length that the values of Content-Length tell: 0 where there is none, and nothing where there are two
abbrev pub length_in : List (List ℕ) → Option ℕ
length_in [] = Some 0
length_in (value ∷ []) = length_of value
length_in (value ∷ other ∷ values) = None

-- the length of a body, or the refusal of one that is no length or is above 1,048,576
abbrev pub within_limit : Option ℕ → Result ℕ ℕ
within_limit None = Err 400
within_limit (Some n) = if nat_lt 1048576 n then Err 413 else Ok n

-- the length of the body behind fields, or their refusal: a body in another coding is 501
abbrev pub body_length : Fields → Result ℕ ℕ
body_length fields =
    if is_none (values_of (codes "transfer-encoding") fields)
    then within_limit (length_in (values_of (codes "content-length") fields)) else Err 501

-- whether a connection closes behind a request of HTTP/1.minor with these fields
abbrev pub closes : ℕ → Fields → Bool
closes minor fields = (minor == 0) || list_any is_close (values_of (codes "connection") fields)
