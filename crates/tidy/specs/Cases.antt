-- Worked cases of the layout: a grammar's text, and its tidy text.
use Rattle.std.specs.Prelude.{◌≡◌, List, [], ◌∷◌}
use Prim.Native.String.{String}
use Rattle.text.specs.Lists.{Text, chars}
use Rattle.tree.specs.Tree.{Grammar}
use Rattle.syntax.specs.Syntax.{Ixml}
use Rattle.tidy.specs.Tidy.{tidy_text}

pub record Case : Type 0 where
  pub written : String
  pub tidied : String

abbrev pub case : String → String → Case
case a b = record { written = a; tidied = b }

unfoldable pub table : List Case
table =
    case "-a={x}'b'|#0A,[L|'c']+." "-a: \"b\"; #a, [L; \"c\"]+.\n"
    ∷ case "a: ; \"x\"." "a: ; \"x\".\n"
    ∷ case "a:#000." "a: #0.\n"
    ∷ case "a:." "a: .\n"
    ∷ case "a:'x'|." "a: \"x\"; .\n"
    ∷ case "a:(|'x')." "a: (; \"x\").\n"
    ∷ case "a:^'x'++ +'y'." "a: ^\"x\"+++\"y\".\n"
    ∷ case "a:'x'** ((#0BC))." "a: \"x\"**((#bc)).\n"
    ∷ case "a:'\"'''." "a: \"\"\"'\".\n"
    ∷ case "a:- ~ [ #00A - 'z' | Nd ] , ^a? ." "a: -~[#a-\"z\"; Nd], ^a?.\n"
    ∷ case "ixml version '1.0'.{}@a:b*. b:'x'.{}" "ixml version \"1.0\".\n@a: b*.\nb: \"x\".\n"
    ∷ []

abbrev pub Holds : Case → Type 0
Holds c = (g : Grammar) × Ixml (chars c.written) g × (tidy_text g ≡ chars c.tidied)

pub data Every (P : Case → Type 0) : List Case → Type 0 where
  every-none : Every P []
  every_more : {c : Case} {cs : List Case} → P c → Every P cs → Every P (c ∷ cs)
