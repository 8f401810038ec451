-- The scan finds the spots of every derivation: so they are those of the text.
use mathlib.Core.Path.{◌≡◌, refl, sym, ap, ◌∙◌}
use mathlib.Core.List.{List, [], ◌∷◌, ◌++◌, append_assoc, append-nil}
use Prim.Native.Nat.{ℕ}
use Rattle.text.specs.Lists.{Text}
use Rattle.text.proofs.Lists.{concat-append}
use Rattle.tree.specs.Tree.{Chars, Member, Terminal, Symbol, Alternative, Body, Rule, Prolog, Grammar}
use Rattle.syntax.specs.Syntax.{Is, ch, S, namestart, namefollower, quote, CharsOf, Name}
use Rattle.syntax.specs.Syntax.{MemberOf, m-chars, m-range, m-class, Members, m-last, m-next, SetOf, set-none, set-some, TerminalOf, t-literal, t-inclusion, t-exclusion, t-insertion}
use Rattle.syntax.specs.Syntax.{Alts, alts-one, alts-also, Alt, alt-none, alt-some, Terms, terms-one, terms-more, Term, t-factor, t-option, t-repeat0, t-repeat0sep, t-repeat1, t-repeat1sep}
use Rattle.syntax.specs.Syntax.{Factor, f-terminal, f-nonterminal, f-group, RuleOf, a-rule, Rules, rules-none, rules-next, PrologOf, prolog-none, prolog-some, Ixml, ixml}
use Rattle.syntax.proofs.Classes.{by-category}
use Rattle.syntax.proofs.SpacingLaws.{rs-s}
use Rattle.syntax.proofs.Shorter.{of-character}
use Rattle.places.specs.Spots.{Spot}
use Rattle.places.specs.Spots.{spots_member, spots_members, spots_set, spots_terminal, spots_alts, spots_alt, spots_terms, spots_term, spots_factor, spots_rule, spots_rules, spots_prolog, spots}
use Rattle.places.specs.Laws.{left}
use Rattle.places.specs.Scan.{between, word, sign, opens, lefts}
use Rattle.places.proofs.Quiet.{loud, stirs, Calm, Stop, calm-nil, calm-s, calm-word, calm-quote, rs-calm, calm-dot, dot-calm}
use Rattle.places.proofs.Quiet.{past-dot, stop-ch, bar-stops, defines-stops, past-s, past-mark, past-tmark}
use Rattle.places.proofs.Quiet.{put, past-name, past-class, past-string, past-chars, past-set, past-group, fresh, past_first}

-- from the text t to the text u the scan finds these spots
pub record Run (t : Text) (ss : List Spot) (u : Text) : Type 0 where
  pub same : lefts between t ≡ left ss ++ lefts between u

-- two stretches one after the other; before or behind, one without spots
then : {t u v : Text} {xs ys : List Spot} → Run t xs u → Run u ys v → Run t (xs ++ ys) v
then {v = v} {xs = xs} {ys = ys} p q = record {
  same = p.same ∙ ap (◌++◌ (left xs)) q.same ∙ sym (append_assoc (left xs) (left ys) (lefts between v))
      ∙ ap (λ (z : List ℕ). z ++ lefts between v) (sym (concat-append (λ s. s.left ∷ []) xs ys));
}

by : {t u v : Text} {xs : List Spot} → lefts between t ≡ lefts between u → Run u xs v → Run t xs v
by e p = record { same = e ∙ p.same }

to : {t u v : Text} {xs : List Spot} → Run t xs u → lefts between u ≡ lefts between v → Run t xs v
to {xs = xs} p e = record { same = p.same ∙ ap (◌++◌ (left xs)) e }

none : {t : Text} → Run t [] t
none = record { same = refl }

-- 1. Signs.
question : {t u : Text} → Is (ch 0x3f) t u → Stop t u
unfolding stirs loud opens namefollower namestart quote sign by-category
question i = stop-ch 0x3f refl i

star : {t u : Text} → Is (ch 0x2a) t u → Stop t u
unfolding stirs loud opens namefollower namestart quote sign by-category
star i = stop-ch 0x2a refl i

cross : {t u : Text} → Is (ch 0x2b) t u → Stop t u
unfolding stirs loud opens namefollower namestart quote sign by-category
cross i = stop-ch 0x2b refl i

comma : {t u : Text} → Is (ch 0x2c) t u → Stop t u
unfolding stirs loud opens namefollower namestart quote sign by-category
comma i = stop-ch 0x2c refl i

close : {t u : Text} → Is (ch 0x29) t u → Stop t u
unfolding stirs loud opens namefollower namestart quote sign by-category
close i = stop-ch 0x29 refl i

shut : {t u : Text} → Is (ch 0x5d) t u → Stop t u
unfolding stirs loud opens namefollower namestart quote sign by-category
shut i = stop-ch 0x5d refl i

tilde : {t u : Text} → Is (ch 0x7e) t u → Stop t u
unfolding stirs loud opens namefollower namestart quote sign by-category
tilde i = stop-ch 0x7e refl i

-- 2. Sets. A word may go on in the hyphen of a range, but not in what follows.
hyphen : {t u v w : Text} {k : Chars} → Is (ch 0x2d) t u → S u v → CharsOf v w k → Stop t v
hyphen i s e = record { calm = calm-dot 0x2d refl i (calm-word s (fresh e)); past = past-dot 0x2d refl i ∙ past-s s }

run-member : {t u : Text} {m : Member} (x : MemberOf t u m) → Calm u → Run t (spots_member x) u
run-member (m-chars c) k = record { same = past-chars c k }
run-member {t} (m-range {x = x} c s i s' e) k =
    let h = hyphen i s' (of-character e) in
    record { same = past-chars (of-character c) (calm-s s h.calm) ∙ ap (put t) (past-s s ∙ h.past ∙ past-chars (of-character e) k) }
run-member {t} (m-class c) k = record { same = past-class c ∙ ap (put t) k.word }

run-members : {t u : Text} {ms : List Member} (x : Members t u ms) → Calm u → Run t (spots_members x) u
run-members (m-last m s) k = to (run-member m (calm-s s k)) (past-s s)
run-members (m-next m s i s' ms) k = let b = bar-stops i in then (to (run-member m (calm-s s b.calm)) (past-s s ∙ b.past ∙ past-s s')) (run-members ms k)

run-set : {t u : Text} {ms : List Member} (x : SetOf t u ms) → Run t (spots_set x) u
run-set {t} (set-none i s j s') = record { same = past-set i ∙ ap (put t) (past-s s ∙ (shut j).past ∙ past-s s') }
run-set {t} (set-some i s ms j s') =
    let k = shut j in
    record { same = past-set i ∙ ap (put t) (past-s s ∙ (to (run-members ms k.calm) (k.past ∙ past-s s')).same) }

-- 3. Factors. What follows is calm: the next character ends a name, or is a rule's full stop.
run-terminal : {t u : Text} {x : Terminal} (d : TerminalOf t u x) → Calm u → Run t (spots_terminal d) u
run-terminal (t-literal {u = u} p c s) k = record { same = past-tmark p ∙ past-chars c (calm-s s k) ∙ ap (put u) (past-s s) }
run-terminal (t-inclusion p ms) k = by (past-tmark p) (run-set ms)
run-terminal (t-exclusion p i s ms) k = by (past-tmark p ∙ (tilde i).past ∙ past-s s) (run-set ms)
run-terminal (t-insertion {v = v} i s c s') k = record { same = (cross i).past ∙ past-s s ∙ past-chars c (calm-s s' k) ∙ ap (put v) (past-s s') }

run-name : {t u v n : Text} → Name t u n → S u v → Calm v → lefts between t ≡ put t (lefts between v)
run-name {t} n s k = past-name n ∙ ap (put t) ((calm-s s k).word ∙ past-s s)

mutual
  run-alts : {d : ℕ} {t u : Text} {b : Body} (x : Alts d t u b) → Calm u → Run t (spots_alts x) u
  run-alts (alts-one a) c = run-alt a c
  run-alts (alts-also a i s b) c = let k = bar-stops i in then (to (run-alt a k.calm) (k.past ∙ past-s s)) (run-alts b c)

  run-alt : {d : ℕ} {t u : Text} {a : Alternative} (x : Alt d t u a) → Calm u → Run t (spots_alt x) u
  run-alt alt-none c = none
  run-alt (alt-some a) c = run-terms a c

  run-terms : {d : ℕ} {t u : Text} {a : Alternative} (x : Terms d t u a) → Calm u → Run t (spots_terms x) u
  run-terms (terms-one f) c = run-term f c
  run-terms (terms-more f i s a) c = let k = comma i in then (to (run-term f k.calm) (k.past ∙ past-s s)) (run-terms a c)

  run-term : {d : ℕ} {t u : Text} {f : Symbol} (x : Term d t u f) → Calm u → Run t (spots_term x) u
  run-term (t-factor f) c = run-factor f c
  run-term (t-option f i s) c = let k = question i in to (run-factor f k.calm) (k.past ∙ past-s s)
  run-term (t-repeat0 f i s) c = let k = star i in to (run-factor f k.calm) (k.past ∙ past-s s)
  run-term (t-repeat0sep f i j s g) c = let k = star i in then (to (run-factor f k.calm) (k.past ∙ (star j).past ∙ past-s s)) (run-factor g c)
  run-term (t-repeat1 f i s) c = let k = cross i in to (run-factor f k.calm) (k.past ∙ past-s s)
  run-term (t-repeat1sep f i j s g) c = let k = cross i in then (to (run-factor f k.calm) (k.past ∙ (cross j).past ∙ past-s s)) (run-factor g c)

  run-factor : {d : ℕ} {t u : Text} {f : Symbol} (x : Factor d t u f) → Calm u → Run t (spots_factor x) u
  run-factor (f-terminal x) c = run-terminal x c
  run-factor (f-nonterminal p n s) c = record { same = past-mark p ∙ run-name n s c }
  run-factor {d} {t} (f-group i s b j s') c =
      let k = close j in
      record { same = past-group i ∙ ap (put t) (past-s s ∙ (to (run-alts b k.calm) (k.past ∙ past-s s')).same) }

-- 4. Rules and the prolog.
run-rule : {t u : Text} {r : Rule} (x : RuleOf t u r) → Calm u → Run t (spots_rule x) u
run-rule (a-rule {u = u} p n s i s' a j) c =
    let k = defines-stops i in
    record {
      same = past-mark p ∙ run-name n s k.calm
          ∙ ap (put u) (k.past ∙ past-s s' ∙ (to (run-alts a (calm-dot 0x2e refl j c.word)) (past-dot 0x2e refl j)).same);
    }

calm-rules : {t u : Text} {rs : List Rule} → Rules t u rs → Calm u → Calm t
calm-rules rules-none c = c
calm-rules (rules-next s r rs) c = rs-calm s

run-rules : {t u : Text} {rs : List Rule} (x : Rules t u rs) → Calm u → Run t (spots_rules x) u
run-rules rules-none c = none
run-rules (rules-next s r rs) c = then (by (past-s (rs-s s)) (run-rule r (calm-rules rs c))) (run-rules rs c)

run-prolog : {t u : Text} {p : Prolog} (x : PrologOf t u p) → Run t (spots_prolog x) u
unfolding namefollower namestart by-category
run-prolog prolog-none = none
run-prolog {t} (prolog-some {v = v} {x = x} a b w r k s i z) = record {
  same = past_first refl refl a b
      ∙ ap (put t) (past_first refl refl w r ∙ ap (put v) (past-string k (calm-quote s (dot-calm 0x2e refl i)) ∙ ap (put x) (past-s s ∙ past-dot 0x2e refl i ∙ past-s z)));
}

run-all : {t : Text} {g : Grammar} (d : Ixml t g) → Run t (spots d) []
run-all (ixml s p r rs e) = let c = calm-s e calm-nil in by (past-s s) (to (then (run-prolog p) (then (run-rule r (calm-rules rs c)) (run-rules rs c))) (past-s e))

-- the spots of every derivation of a text are those that the scan finds
pub lefts-known : {t : Text} {g : Grammar} (d : Ixml t g) → lefts between t ≡ left (spots d)
unfolding lefts
lefts-known d = (run-all d).same ∙ append-nil (left (spots d))
