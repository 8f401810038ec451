-- The tidy text reads back as the same grammar.
use mathlib.Core.Path.{◌≡◌, refl, ◌∙◌}
use mathlib.Core.List.{List, [], ◌∷◌, ◌++◌}
use Rattle.text.specs.Lists.{Text, chars, concat_map}
use Rattle.tree.specs.Tree.{Rule, Prolog, version, Grammar}
use Rattle.syntax.specs.Syntax.{is, Word, word_end, word-char, s-none, String, defines, RuleOf, a-rule, Rules, rules-none, rules-next}
use Rattle.syntax.specs.Syntax.{PrologOf, prolog-none, prolog-some, Ixml, ixml}
use Rattle.tidy.specs.Tidy.{quoted_text, mark_text, body_text, rule_text, prolog_text, tidy_text}
use Rattle.tidy.proofs.Lexical.{three, sign, space, blank, line-end, next-line, string-reads, mark-reads, name-reads}
use Rattle.tidy.proofs.Factors.{body_reads}

five : (a b c d e w : Text) → a ++ b ++ c ++ d ++ e ++ w ≡ a ++ (b ++ (c ++ (d ++ (e ++ w))))
five a b c d e w = three (a ++ b ++ c) d e w ∙ three a b c (d ++ (e ++ w))

-- a rule up to its line end
rule-reads : (t u w : Text) (r : Rule) → RuleOf t u r → RuleOf (rule_text r ++ w) (0xa ∷ w) r
unfolding defines
rule-reads t u w r (a-rule {n = n} {m = m} {b = b} h k s d s' a e) =
    let ended : Text = 0x2e ∷ 0xa ∷ w in
    rw (five (mark_text m) n (chars ": ") (body_text b) (chars ".\n") w)
    (a-rule (mark-reads _ _ _ m h) (name-reads _ _ n (chars ": " ++ (body_text b ++ ended)) k) s-none (is refl) (space (body_text b ++ ended))
    (body_reads _ _ _ ended b a) (sign 0x2e))

-- a line end stands before each other rule, and the last one's behind all
others-read : (t u : Text) (rs : List Rule) → Rules t u rs → Rules (0xa ∷ concat_map rule_text rs) (0xa ∷ []) rs
others-read t u rs rules-none = rules-none
others-read t u rs (rules-next {r = r} {rs = qs} s h hs) = rules-next (next-line _) (rule-reads _ _ (concat_map rule_text qs) r h) (others-read _ _ qs hs)

ixml-word : (w : Text) → Word (chars "ixml") (chars "ixml" ++ w) w
ixml-word w = word-char (sign 0x69) (word-char (sign 0x78) (word-char (sign 0x6d) (word-char (sign 0x6c) word_end)))

version-word : (w : Text) → Word (chars "version") (chars "version" ++ w) w
version-word w =
    word-char (sign 0x76) (word-char (sign 0x65) (word-char (sign 0x72) (word-char (sign 0x73)
    (word-char (sign 0x69) (word-char (sign 0x6f) (word-char (sign 0x6e) word_end))))))

version-reads : (k w : Text) → let v = quoted_text k ++ (0x2e ∷ 0xa ∷ w) in String v (0x2e ∷ 0xa ∷ w) k → PrologOf (chars "ixml version " ++ v) w (version k)
version-reads k w h = prolog-some (ixml-word _) (blank _) (version-word _) (blank _) h s-none (sign 0x2e) (line-end w)

prolog-reads : (t u w : Text) (p : Prolog) → PrologOf t u p → PrologOf (prolog_text p ++ w) w p
prolog-reads t u w p prolog-none = prolog-none
prolog-reads t u w p (prolog-some {k = k} a r b r' h s d s') =
    rw (three (chars "ixml version ") (quoted_text k) (chars ".\n") w) (version-reads k w (string-reads _ _ k (0x2e ∷ 0xa ∷ w) h))

pub tidy-reads : (t : Text) (g : Grammar) → Ixml t g → Ixml (tidy_text g) g
unfolding tidy_text
tidy-reads t g (ixml {p = p} {r = r} {rs = rs} s h k ks e) =
    ixml s-none (prolog-reads _ _ (concat_map rule_text (r ∷ rs)) p h) (rule-reads _ _ (concat_map rule_text rs) r k) (others-read _ _ rs ks) (line-end [])
