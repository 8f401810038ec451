-- `unproductive` says exactly when some rule derives no text.
use mathlib.Core.Path.{◌≡◌, refl, sym, ap, ◌∙◌, subst}
use mathlib.Core.Bool.{Bool, true, false, not}
use mathlib.Core.Logic.{◌⊎◌, inl, inr, ◌↔◌}
use mathlib.Core.List.Memᴰ.{head as in_head}
use mathlib.Core.List.Memᴰ.{tail as in_Tail}
use mathlib.Core.List.{List, [], ◌∷◌, ◌++◌, append_assoc, append-nil, Memᴰ as In}
use Prim.Native.Nat.{ℕ, zero, suc, ◌+◌, ◌<◌, ◌≤◌}
use native.Mathlib.Decide.{ℕ_discrete}
use native.Mathlib.Omega.{arith}
use lib.Dec.{T}
use lib.ListN.{length, get_or, drop, length-append}
use lib.Seq.{drop-append_seam}
use Rattle.text.specs.Lists.{Text, any, all}
use Rattle.text.specs.Utf8.{known}
use Rattle.text.proofs.Tests.{and_left, and_right}
use Rattle.tree.specs.Tree.{Terminal, Symbol, terminal, Grammar}
use Rattle.plain.specs.Written.{terminals_in}
use Rattle.plain.specs.Plain.{alts, ruled, fits, width}
use Rattle.plain.specs.Live.{live}
use Rattle.plain.proofs.Live.{fits-live, live-fits}
use Rattle.derive.specs.Derive.{Row, end, leaf, node, Derives, d-end, d-leaf, d-node, alternative}
use Rattle.derive.specs.Bound.{symbols_of}
use Rattle.derive.specs.Pick.{beside}
use Rattle.derive.specs.Productive.{Produces, Unproductive}
use Rattle.derive.specs.Yield.{yields, productive, unproductive}
use Rattle.derive.proofs.Tools.{both-and, or_case, or_left, or_right}
use Rattle.derive.proofs.Rows.{join}
use Rattle.derive.proofs.Bound.{still, count, count-le, count_same}
use Rattle.derive.proofs.Symbols.{Inside, alternative-of, ruled-of, the-terminal}

module _ {A : Type 0} where
  pub any-in : (f : A → Bool) (xs : List A) {x : A} → In x xs → T (f x) → T (any f xs)
  any-in f (y ∷ ys) (in_head e) t = or_left (f y) (any f ys) (subst (λ (z : A). T (f z)) e t)
  any-in f (y ∷ ys) (in_Tail m) t = or_right (f y) (any f ys) (any-in f ys m t)
  any-in f [] x4 t = elim x4 [ ]

  -- an element that passes
  pub record Passing (f : A → Bool) (xs : List A) : Type 0 where
    pub x : A
    pub is : In x xs
    pub passes : T (f x)

  pub passing : (f : A → Bool) (xs : List A) → T (any f xs) → Passing f xs
  passing f [] t = absurd t
  passing f (x ∷ xs) t = elim (or_case (f x) (any f xs) t) as (λ _. Passing f (x ∷ xs)) [
    | inl h ↦ record { x = x; is = in_head refl; passes = h }
    | inr h ↦ (let w = passing f xs h in record { x = w.x; is = in_Tail w.is; passes = w.passes })
  ]

  -- an element by its number
  pub get_in : (xs : List A) (d : A) (a : ℕ) → a < length xs → In (get_or xs a d) xs
  get_in [] d a h = absurd (omega arith)
  get_in (x ∷ xs) d zero h = in_head refl
  get_in (x ∷ xs) d (suc a) h = in_Tail (get_in xs d a (omega arith))

  record Numbered (xs : List A) (d x : A) : Type 0 where
    a : ℕ
    below : a < length xs
    is : get_or xs a d ≡ x

  numbered : (xs : List A) (d : A) {x : A} → In x xs → Numbered xs d x
  numbered (y ∷ ys) d (in_head e) = record { a = 0; below = omega arith; is = sym e }
  numbered (y ∷ ys) d (in_Tail m) = let w = numbered ys d m in record { a = suc w.a; below = omega (arith, w.below); is = w.is }
  numbered [] d x3 = elim x3 [ ]

  pub all_append : (f : A → Bool) (xs ys : List A) → T (all f xs) → T (all f ys) → T (all f (xs ++ ys))
  all_append f [] ys h k = k
  all_append f (x ∷ xs) ys h k = both-and (f x) (all f (xs ++ ys)) (and_left (f x) (all f xs) h) (all_append f xs ys (and_right (f x) (all f xs) h) k)

  pub all_more : (f h : A → Bool) → ((x : A) → T (f x) → T (h x)) → (xs : List A) → T (all f xs) → T (all h xs)
  all_more f h w [] t = tt
  all_more f h w (x ∷ xs) t = both-and (h x) (all h xs) (w x (and_left (f x) (all f xs) t)) (all_more f h w xs (and_right (f x) (all f xs) t))

  pub all_drop : (f : A → Bool) (i : ℕ) (xs : List A) → T (all f xs) → T (all f (drop i xs))
  all_drop f zero xs h = h
  all_drop f (suc i) [] h = h
  all_drop f (suc i) (x ∷ xs) h = all_drop f i xs (and_right (f x) (all f xs) h)

pub not-both : (b : Bool) → T (not b) → T b → ⊥
not-both true h t = h
not-both false h t = t

pub not-of : (b : Bool) → (T b → ⊥) → T (not b)
not-of true h = h tt
not-of false h = tt

module _ (g : Grammar) where
  -- a level holds what is live, and what an alternative of the level below gives
  live-yields : (k : ℕ) (s : Symbol) → T (any live (terminals_in s)) → T (yields g k s)
  live-yields zero s h = h
  live-yields (suc k) s h = or_left (any live (terminals_in s)) (any (all (yields g k)) (alts g s)) h

  pub leaf-yields : (k : ℕ) (x : Terminal) → T (live x) → T (yields g k (terminal x))
  leaf-yields k x h = live-yields k (terminal x) (or_left (live x) false h)

  pub node-yields : (k : ℕ) (s : Symbol) (a : ℕ) → a < length (alts g s) → T (all (yields g k) (alternative g s a)) → T (yields g (suc k) s)
  node-yields k s a h t = or_right (any live (terminals_in s)) (any (all (yields g k)) (alts g s)) (any-in (all (yields g k)) (alts g s) (get_in (alts g s) [] a h) t)

  -- what a level holds is live, or has an alternative that the level below holds
  pub above : (k : ℕ) (s : Symbol) → T (yields g (suc k) s) → T (any live (terminals_in s)) ⊎ T (any (all (yields g k)) (alts g s))
  above k s h = or_case (any live (terminals_in s)) (any (all (yields g k)) (alts g s)) h

  pub yields_more : (k : ℕ) (s : Symbol) → T (yields g k s) → T (yields g (suc k) s)
  yields_more zero s h = live-yields 1 s h
  yields_more (suc k) s h = elim (above k s h) as (λ _. T (yields g (suc (suc k)) s)) [
    | inl l ↦ live-yields (suc (suc k)) s l
    | inr n ↦
        (let w = passing (all (yields g k)) (alts g s) n in
        let t = all_more (yields g k) (yields g (suc k)) (yields_more k) w.x w.passes in
        or_right (any live (terminals_in s)) (any (all (yields g (suc k))) (alts g s)) (any-in (all (yields g (suc k))) (alts g s) w.is t))
  ]

  -- some level of at most as many as there are symbols adds nothing to the one below
  Settled : ℕ → Type 0
  Settled k = (s : Symbol) → In s (symbols_of g) → T (yields g (suc k) s) → T (yields g k s)

  record Last : Type 0 where
    k : ℕ
    early : k ≤ length (symbols_of g)
    settled : Settled k

  last : Last
  unfolding Settled
  last =
      let w = still (λ (k : ℕ). count (yields g k) (symbols_of g)) (length (symbols_of g)) (λ k. count-le (yields g k) (symbols_of g)) in
      record { k = w.k; early = w.early; settled = λ s m t. count_same (yields g w.k) (yields g (suc w.k)) (yields_more w.k) (symbols_of g) w.flat m t }

  -- from it on, whatever derives a text of known characters is held
  settles : (k : ℕ) → Settled k → {r : Text} → T (all known r) → {t : Row} {ss : List Symbol} {i j : ℕ} → Inside g ss → Derives g r t ss i j → T (all (yields g k) ss)
  unfolding Settled
  settles k f v h d-end = tt
  settles k f {r = r} v h (d-leaf {x} {ss} {i = i} b d) =
      both-and (yields g k (terminal x)) (all (yields g k) ss) (leaf-yields k x (fits-live x (drop i r) (all_drop known i r v) b)) (settles k f v h.1 d)
  settles k f v h (d-node {s} {ss} {a = a} la c d) =
      both-and (yields g k s) (all (yields g k) ss) (f s h.0 (node-yields k s a la (settles k f v (alternative-of g h.0 a) c))) (settles k f v h.1 d)

  pub rise : (k n : ℕ) (s : Symbol) → k ≤ n → T (yields g k s) → T (yields g n s)
  rise k zero s h t = subst (λ (m : ℕ). T (yields g m s)) (let e : k ≡ 0 = omega arith in e) t
  rise k (suc n) s h t = elim (ℕ_discrete k (suc n)) as (λ _. T (yields g (suc n) s)) [
    | yes e ↦ subst (λ (m : ℕ). T (yields g m s)) e t
    | no e ↦ yields_more n s (rise k n s (omega arith) t)
  ]

  -- so the symbols of a row that derives a text of known characters are productive
  pub derived-productive : {r : Text} → T (all known r) → {t : Row} {ss : List Symbol} {i j : ℕ} → Inside g ss → Derives g r t ss i j → T (all (productive g) ss)
  derived-productive v {ss = ss} h d =
      all_more (yields g last.k) (productive g) (λ s. rise last.k (suc (length (symbols_of g))) s (omega (arith, last.early))) ss (settles last.k last.settled v h d)

  complete-by : {s : Symbol} {r : Text} {t : Row} {i j : ℕ} → T (all known r) → In s (ruled g) → Derives g r t (s ∷ []) i j → T (productive g s)
  complete-by {r = r} v h (d-leaf {x} {i = i} b d-end) = leaf-yields (suc (length (symbols_of g))) x (fits-live x (drop i r) (all_drop known i r v) b)
  complete-by v h (d-node {s} {a = a} la c d-end) =
      rise (suc last.k) (suc (length (symbols_of g))) s (omega (arith, last.early)) (node-yields last.k s a la (settles last.k last.settled v (ruled-of g h a) c))

  pub complete : {s : Symbol} → In s (ruled g) → Produces g s → T (productive g s)
  complete h w = complete-by w.held h w.derives

  -- a text of the symbols, wherever it stands
  pub record Spelling (ss : List Symbol) : Type 0 where
    pub text : Text
    pub held : T (all known text)
    pub tree : Text → Text → Row
    pub derives : (p u : Text) → Derives g (p ++ (text ++ u)) (tree p u) ss (length p) (length p + length text)

  spell-none : Spelling []
  spell-none = record {
    text = [];
    held = tt;
    tree = λ p u. end;
    derives = λ p u. subst (λ (n : ℕ). Derives g (p ++ u) end [] (length p) n) (let e : length p ≡ length p + 0 = omega arith in e) d-end;
  }

  spell-leaf : (x : Terminal) → T (live x) → Spelling (terminal x ∷ [])
  spell-leaf x h =
      let w = live-fits x h in
      record {
        text = w.0;
        held = w.1.1.0;
        tree = λ p u. leaf (length p + width x) end;
        derives = λ p u. subst (λ (n : ℕ). Derives g (p ++ (w.0 ++ u)) (leaf (length p + width x) end) (terminal x ∷ []) (length p) n)
            (ap (λ (n : ℕ). length p + n) (sym w.1.0))
            (d-leaf (subst (λ (t : Text). T (fits x t)) (sym (drop-append_seam p (w.0 ++ u))) (w.1.1.1 u)) d-end);
      }

  spell-node : (s : Symbol) (a : ℕ) → a < length (alts g s) → Spelling (alternative g s a) → Spelling (s ∷ [])
  spell-node s a h w = record {
    text = w.text;
    held = w.held;
    tree = λ p u. node a (length p + length w.text) (w.tree p u) end;
    derives = λ p u. d-node h (w.derives p u) d-end;
  }

  spell_both : (s : Symbol) (ss : List Symbol) → Spelling (s ∷ []) → Spelling ss → Spelling (s ∷ ss)
  spell_both s ss v w = record {
    text = v.text ++ w.text;
    held = all_append known v.text w.text v.held w.held;
    tree = λ p u. beside (v.tree p (w.text ++ u)) (w.tree (p ++ v.text) u);
    derives = λ p u.
        (let one = subst (λ (t : Text). Derives g (p ++ t) (v.tree p (w.text ++ u)) (s ∷ []) (length p) (length p + length v.text)) (sym (append_assoc v.text w.text u))
        (v.derives p (w.text ++ u)) in
        let whole : (p ++ v.text) ++ (w.text ++ u) ≡ p ++ ((v.text ++ w.text) ++ u) = append_assoc p v.text (w.text ++ u) ∙ ap (λ (t : Text). p ++ t)
        (sym (append_assoc v.text w.text u)) in
        let two = subst (λ (t : Text). Derives g t (w.tree (p ++ v.text) u) ss (length (p ++ v.text)) (length (p ++ v.text) + length w.text)) whole (w.derives (p ++ v.text) u) in
        let here : length (p ++ v.text) ≡ length p + length v.text = length-append p v.text in
        let there : length (p ++ v.text) + length w.text ≡ length p + length (v.text ++ w.text) = omega (arith, length-append p v.text, length-append v.text w.text) in
        join g (p ++ ((v.text ++ w.text) ++ u)) one
        (subst (λ (n : ℕ). Derives g (p ++ ((v.text ++ w.text) ++ u)) (w.tree (p ++ v.text) u) ss n (length p + length (v.text ++ w.text))) here
        (subst (λ (n : ℕ). Derives g (p ++ ((v.text ++ w.text) ++ u)) (w.tree (p ++ v.text) u) ss (length (p ++ v.text)) n) there two)));
  }

  spell-all : (k : ℕ) → ((s : Symbol) → T (yields g k s) → Spelling (s ∷ [])) → (ss : List Symbol) → T (all (yields g k) ss) → Spelling ss
  spell-all k f [] t = spell-none
  spell-all k f (s ∷ ss) t = spell_both s ss (f s (and_left (yields g k s) (all (yields g k) ss) t)) (spell-all k f ss (and_right (yields g k s) (all (yields g k) ss) t))

  spell-live : (s : Symbol) → T (any live (terminals_in s)) → Spelling (s ∷ [])
  spell-live s t = let w = passing live (terminals_in s) t in subst (λ (z : Symbol). Spelling (z ∷ [])) (the-terminal s w.x w.is) (spell-leaf w.x w.passes)

  spell : (k : ℕ) (s : Symbol) → T (yields g k s) → Spelling (s ∷ [])
  spell zero s t = spell-live s t
  spell (suc k) s t = elim (above k s t) as (λ _. Spelling (s ∷ [])) [
    | inl l ↦ spell-live s l
    | inr n ↦
        (let w = passing (all (yields g k)) (alts g s) n in
        let a = numbered (alts g s) [] w.is in
        spell-node s a.a a.below (spell-all k (spell k) (alternative g s a.a) (subst (λ (ss : List Symbol). T (all (yields g k) ss)) (sym a.is) w.passes)))
  ]

  pub spelled : (ss : List Symbol) → T (all (productive g) ss) → Spelling ss
  spelled = spell-all (suc (length (symbols_of g))) (spell (suc (length (symbols_of g))))

  pub sound : (k : ℕ) {s : Symbol} → T (yields g k s) → Produces g s
  sound k {s} t =
      let w = spell k s t in
      let e : w.text ++ [] ≡ w.text = append-nil w.text in
      record {
        text = w.text;
        held = w.held;
        tree = w.tree [] [];
        derives = subst (λ (r : Text). Derives g r (w.tree [] []) (s ∷ []) 0 (length w.text)) e
            (subst (λ (n : ℕ). Derives g (w.text ++ []) (w.tree [] []) (s ∷ []) 0 n) (let z : 0 + length w.text ≡ length w.text = omega arith in z) (w.derives [] []));
      }

  -- a rule derives some text exactly when the computation says so
  pub productive-is : {s : Symbol} → In s (ruled g) → T (productive g s) ↔ Produces g s
  productive-is h = (sound (suc (length (symbols_of g))), complete h)

  pub unproductive-is : T (unproductive g) ↔ Unproductive g
  unfolding unproductive
  unproductive-is = (
    λ t. (let w = passing (λ (s : Symbol). not (productive g s)) (ruled g) t in
        record { rule = w.x; is = w.is; none = λ p. not-both (productive g w.x) w.passes (complete w.is p) }),
    λ w. any-in (λ (s : Symbol). not (productive g s)) (ruled g) w.is (not-of (productive g w.rule) (λ t. w.none (sound (suc (length (symbols_of g))) t))),
  )
