-- How many bytes a row takes at most, and how many attributes it has, at every depth.
use Rattle.std.specs.Prelude.{◌≡◌, true, false, ℕ, ◌+◌, ◌*◌, ◌<◌, ◌≤◌, length}
use Rattle.text.specs.Lists.{Text, concat_map}
use Rattle.xml.specs.Document.{Xml, none, char, attr, elem}
use Rattle.xml.specs.Bytes.{escape}
use Rattle.encode.specs.Out.{enc}
use Rattle.extent.specs.declared.Extent.{Extent}

-- the bytes of a text
abbrev pub size : Text → ℕ
size t = length (enc t)

-- of the tags of a name, at most
abbrev pub tag : Text → ℕ
tag n = 8 * length n + 5

-- of a row, at most
abbrev pub most_of : Xml → ℕ
most_of none = 0
most_of (char c x) = size (escape true c) + most_of x
most_of (attr n v x) = tag n + size (concat_map (escape true) v) + most_of x
most_of (elem n i x) = tag n + most_of i + most_of x

-- its attributes
abbrev pub attributes_of : Xml → ℕ
attributes_of none = 0
attributes_of (char c x) = attributes_of x
attributes_of (attr n v x) = 1 + attributes_of x
attributes_of (elem n i x) = attributes_of i + attributes_of x

abbrev pub none_at : Extent
none_at = record { most = 0; attributed = false }

-- from here on nothing is known of the bytes
abbrev pub unknown : ℕ
unknown = 1099511627776

-- what is known of a row
pub record Covers (e : Extent) (x : Xml) : Type 0 where
  pub most : e.most < unknown → most_of x ≤ e.most
  pub bare : e.attributed ≡ false → attributes_of x ≡ 0

-- so many bytes more
pub record Grown (e r : Extent) (by : ℕ) : Type 0 where
  pub is : r.most < unknown → r.most ≡ e.most + by

-- it fits, with any state
pub record Fits (e : Extent) (room : ℕ) : Type 0 where
  pub known : e.most < unknown
  pub enough : e.most + 80 ≤ room
