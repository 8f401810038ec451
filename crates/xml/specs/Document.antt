-- What a derivation writes, as a tree of XML, and what forbids to write it.
use Rattle.std.specs.Prelude.{Bool, true, false, not, ◌&&◌, ◌||◌, List, [], ◌∷◌, ◌++◌, ℕ, ◌-◌, take, drop}
use Rattle.text.specs.Lists.{Text, chars, any, same, repeats}
use Rattle.tree.specs.Tree.{Mark, unmarked, included, attribute, deleted, Terminal, literal, inclusion, exclusion, insertion, codes}
use Rattle.tree.specs.Tree.{Symbol, Grammar, rules}
use Rattle.plain.specs.Written.{Kind, atom, named, made, kind}
use Rattle.plain.specs.Plain.{rule_mark, over}
use Rattle.derive.specs.Derive.{Row, end, leaf, node, alternative, root}
use Rattle.xml.specs.Names.{xml_char, xml_name}

-- a row of nodes: a character of text; an attribute by its name and value; an element by its name and what stands in it, its
-- attributes among that
pub data Xml : Type 0 where
  none : Xml
  char : ℕ → Xml → Xml
  attr : Text → Text → Xml → Xml
  elem : Text → Xml → Xml → Xml

abbrev pub join : Xml → Xml → Xml
join none y = y
join (char c x) y = char c (join x y)
join (attr n v x) y = attr n v (join x y)
join (elem n i x) y = elem n i (join x y)

abbrev pub text : Text → Xml
text [] = none
text (c ∷ cs) = char c (text cs)

-- extra rules are "marked deleted"
abbrev pub mark_of : Grammar → Symbol → Mark
mark_of g s = elim (kind s) [ atom x ↦ deleted | named m n ↦ over m (rule_mark (rules g) n) | made ↦ deleted ]

abbrev pub name_of : Symbol → Text
name_of s = elim (kind s) [ atom x ↦ [] | named m n ↦ n | made ↦ [] ]

-- "undeleted terminal and insertion text": of a terminal on the characters t
abbrev pub kept : Mark → Text → Text
kept m t = elim m [ unmarked ↦ t | included ↦ t | attribute ↦ t | deleted ↦ [] ]

abbrev pub terminal_text : Terminal → Text → Text
terminal_text x t = elim x [ literal m k ↦ kept m t | inclusion m ms ↦ kept m t | exclusion m ms ↦ kept m t | insertion k ↦ codes k ]

abbrev pub leaf_text : Symbol → Text → Text
leaf_text s t = elim (kind s) [ atom x ↦ terminal_text x t | named m n ↦ [] | made ↦ [] ]

-- the characters from place i up to place m
abbrev pub stretch : Text → ℕ → ℕ → Text
stretch r i m = take (m - i) (drop i r)

-- "all its undeleted terminal and insertion text in order, whatever marks lie between": of a row of the symbols, from place i
abbrev pub value : Grammar → Text → Row → List Symbol → ℕ → Text
value g r end ss i = []
value g r (leaf m t) [] i = []
value g r (leaf m t) (s ∷ ss) i = leaf_text s (stretch r i m) ++ value g r t ss m
value g r (node a m c t) [] i = []
value g r (node a m c t) (s ∷ ss) i = value g r c (alternative g s a) i ++ value g r t ss m

-- a nonterminal's node, by its mark: "An attribute is exposed if it is an attribute child or exposed by a deleted child",
-- since a deleted node leaves what stands in it
abbrev pub marked : Mark → Text → Xml → Text → Xml
marked m n inside v = elim m [ unmarked ↦ elem n inside none | included ↦ elem n inside none | attribute ↦ attr n v none | deleted ↦ inside ]

abbrev pub nodes : Grammar → Text → Row → List Symbol → ℕ → Xml
nodes g r end ss i = none
nodes g r (leaf m t) [] i = none
nodes g r (leaf m t) (s ∷ ss) i = join (text (leaf_text s (stretch r i m))) (nodes g r t ss m)
nodes g r (node a m c t) [] i = none
nodes g r (node a m c t) (s ∷ ss) i = join (marked (mark_of g s) (name_of s) (nodes g r c (alternative g s a) i) (value g r c (alternative g s a) i)) (nodes g r t ss m)

-- "the root takes its rule's mark"; "a root marked @ is judged as if unmarked"
abbrev pub as_root : Mark → Mark
as_root m = elim m [ unmarked ↦ unmarked | included ↦ included | attribute ↦ unmarked | deleted ↦ deleted ]

abbrev pub document : Grammar → Text → Row → Xml
document g r end = none
document g r (leaf m t) = none
document g r (node a m c t) = marked (as_root (mark_of g (root g))) g.root.name (nodes g r c (alternative g (root g) a) 0) []

-- 17: "an attribute twice on one element"
abbrev pub attribute_names : Xml → List Text
attribute_names none = []
attribute_names (char c x) = attribute_names x
attribute_names (attr n v x) = n ∷ attribute_names x
attribute_names (elem n i x) = attribute_names x

unfoldable pub twice : Xml → Bool
twice none = false
twice (char c x) = twice x
twice (attr n v x) = twice x
twice (elem n i x) = repeats (attribute_names i) || twice i || twice x

-- 18: "a written name is no XML name"
unfoldable pub misnamed : Xml → Bool
misnamed none = false
misnamed (char c x) = misnamed x
misnamed (attr n v x) = not (xml_name n) || misnamed x
misnamed (elem n i x) = not (xml_name n) || misnamed i || misnamed x

-- 19: "a written character is no XML character"
unfoldable pub unwritable : Xml → Bool
unwritable none = false
unwritable (char c x) = not (xml_char c) || unwritable x
unwritable (attr n v x) = any (λ c. not (xml_char c)) v || unwritable x
unwritable (elem n i x) = unwritable i || unwritable x

-- 20: "the root rule is marked @"
unfoldable pub is_attribute : Mark → Bool
is_attribute m = elim m [ unmarked ↦ false | included ↦ false | attribute ↦ true | deleted ↦ false ]

-- 21: "not one element with nothing beside it, attributes included" (a root that is not deleted is one element)
unfoldable pub not_one : Xml → Bool
not_one none = true
not_one (char c x) = true
not_one (attr n v x) = true
not_one (elem n i x) = elim x [ none ↦ false | char c y ↦ true | attr m v y ↦ true | elem m j y ↦ true ]

-- 22: "an attribute named xmlns"
unfoldable pub namespaced : Xml → Bool
namespaced none = false
namespaced (char c x) = namespaced x
namespaced (attr n v x) = same n (chars "xmlns") || namespaced x
namespaced (elem n i x) = namespaced i || namespaced x
