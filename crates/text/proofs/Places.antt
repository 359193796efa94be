-- A literal written in place: its minus, its space, and its digits from the last to the first.
use Rattle.std.proofs.Common.{◌≡◌, ℕ, ◌+◌, ◌-◌, ◌/◌, ◌%◌, ◌<◌, ◌≤◌, Bool, true, false, List, [], ◌∷◌, ◌++◌, length, get_or, take, drop, set, ℤ, pos, nat_abs, decimal, sym, refl, ap, ◌∙◌, subst, ⊎_elim, arith}
use lib.Signed.{lt_z}
use mir.Val.{bool_byte}
use Rattle.text.specs.Lines.{literal_text}
use Rattle.std.proofs.lemmas.Fmt.{decimal_digit, decimal_step}
use Rattle.std.proofs.lemmas.List.{append_assoc, length-append, length-set, length-take-le, drop_more, drop-set, drop_all, take-set, take-set-le, take_more_set, take_all, take-take, take_at, drop_at, take-append-drop, get_or_at, get_or-take, get_or-set_same}
use Rattle.std.proofs.lemmas.Bool.{cases_lt, cases_Bool}
use Rattle.text.proofs.Written.{one_digit, digit_more, literal_positive, literal_negative}

-- the last digit
last_digit : (left : ℕ) → left < 1000000 → (m : ℕ) → length (decimal left) ≡ m + 1 → get_or (decimal left) m 0 ≡ 48 + left % 10
last_digit left small m e =
    ⊎_elim
    (λ (l : left < 10).
    let z : m ≡ 0 = omega (arith, one_digit left l, e) in
    let r : left % 10 ≡ left = omega arith in
    ap (λ k. get_or (decimal left) k 0) z ∙ ap (λ ds. get_or ds 0 0) (decimal_digit left l) ∙ ap (λ k. 48 + k) (sym r))
    (λ (g : 10 ≤ left).
    let s = decimal_step left g (omega arith) in
    let n : length (decimal (left / 10)) ≡ m = omega (arith, digit_more left g small, e) in
    ap (λ ds. get_or ds m 0) s ∙ get_or_at (decimal (left / 10)) (48 + left % 10) [] 0 m n)
    (cases_lt left 10)

-- j digits are written, and the others are those of left
pub record Partly (ws D head : List ℕ) (first n j left : ℕ) (vs : List ℕ) : Type 0 where
  pub long : length vs ≡ length ws
  pub front : take first vs ≡ head
  pub back : drop (first + (n - j)) vs ≡ drop (n - j) D ++ (32 ∷ drop (first + n + 1) ws)
  pub number : j < n → decimal left ≡ take (n - j) D
  pub small : left < 1000000

-- the digits from place i on are written, and the others are those of left
pub record PartlyFrom (ws D head : List ℕ) (first n i left : ℕ) (vs : List ℕ) : Type 0 where
  pub from : first ≤ i
  pub upto : i ≤ first + n
  pub long : length vs ≡ length ws
  pub front : take first vs ≡ head
  pub back : drop i vs ≡ drop (i - first) D ++ (32 ∷ drop (first + n + 1) ws)
  pub number : first < i → decimal left ≡ take (i - first) D
  pub small : left < 1000000

pub begun : (v : List ℕ) (first n size : ℕ) → size < 1000000 → n ≡ length (decimal size) → first + n < length v → Partly (set v (first + n) 32) (decimal size) (take first (set v (first + n) 32)) first n 0 size (set v (first + n) 32)
begun v first n size small whole room =
    let D = decimal size in
    let w = set v (first + n) 32 in
    let none : n - 0 ≡ n = omega arith in
    let long = length-set v (first + n) 32 in
    record {
      long = refl;
      front = refl;
      back =
          ap (λ k. drop (first + k) w) none
          ∙ drop_more w (first + n) 0 (omega arith)
          ∙ ap (λ x. x ∷ drop (first + n + 1) w) (get_or-set_same v (first + n) 32 0 room)
          ∙ sym (ap (λ k. drop k D ++ (32 ∷ drop (first + n + 1) w)) none ∙ ap (λ l. l ++ (32 ∷ drop (first + n + 1) w)) (drop_all n D (omega (arith, whole))));
      number = λ l. sym (ap (λ k. take k D) none ∙ take_all n D (omega (arith, whole)));
      small = small;
    }

-- the literal's parts: a minus or none, the digits, the space
module _ (z l : ℤ) (m : ℕ) (is : z ≡ l) (size : m ≡ nat_abs z) where
  same : m ≡ nat_abs l
  same = size ∙ ap nat_abs is

  negative : (b : Bool) → lt_z z (pos 0) ≡ b → lt_z l (pos 0) ≡ b
  negative b e = ap (λ x. lt_z x (pos 0)) (sym is) ∙ e

  pub literal_long : (n : ℕ) → n ≡ length (decimal m) → length (literal_text l) ≡ bool_byte (lt_z z (pos 0)) + n + 1
  literal_long n e =
      ⊎_elim
      (λ (y : lt_z z (pos 0) ≡ true). omega (arith, ap length (literal_negative l m (negative true y) same), length-append (decimal m) (32 ∷ []), ap bool_byte y, e))
      (λ (y : lt_z z (pos 0) ≡ false). omega (arith, ap length (literal_positive l m (negative false y) same), length-append (decimal m) (32 ∷ []), ap bool_byte y, e))
      (cases_Bool (lt_z z (pos 0)))

  pub literal_joined : (ws : List ℕ) (at : ℕ) → at < length ws → take (at + bool_byte (lt_z z (pos 0))) (set ws at 45) ++ (decimal m ++ (32 ∷ [])) ≡ take at ws ++ literal_text l
  literal_joined ws at h =
      ⊎_elim
      (λ (y : lt_z z (pos 0) ≡ true).
      ap (λ (b : Bool). take (at + bool_byte b) (set ws at 45) ++ (decimal m ++ (32 ∷ []))) y
      ∙ ap (λ xs. xs ++ (decimal m ++ (32 ∷ []))) (take_more_set ws at 45 h)
      ∙ append_assoc (take at ws) (45 ∷ []) (decimal m ++ (32 ∷ []))
      ∙ ap (λ xs. take at ws ++ xs) (sym (literal_negative l m (negative true y) same)))
      (λ (y : lt_z z (pos 0) ≡ false).
      ap (λ (b : Bool). take (at + bool_byte b) (set ws at 45) ++ (decimal m ++ (32 ∷ []))) y
      ∙ ap (λ k. take k (set ws at 45) ++ (decimal m ++ (32 ∷ []))) (let e : at + 0 ≡ at = omega arith in e)
      ∙ ap (λ xs. xs ++ (decimal m ++ (32 ∷ []))) (take-set ws at 45)
      ∙ ap (λ xs. take at ws ++ xs) (sym (literal_positive l m (negative false y) same)))
      (cases_Bool (lt_z z (pos 0)))

  -- where it stands at the front
  pub literal_front : (ws : List ℕ) → 0 < length ws → take (bool_byte (lt_z z (pos 0))) (set ws 0 45) ++ (decimal m ++ (32 ∷ [])) ≡ literal_text l
  literal_front ws h =
      let e : bool_byte (lt_z z (pos 0)) ≡ 0 + bool_byte (lt_z z (pos 0)) = omega arith in
      ap (λ k. take k (set ws 0 45) ++ (decimal m ++ (32 ∷ []))) e ∙ literal_joined ws 0 h

module _ (ws D head : List ℕ) (first n i left : ℕ) (vs : List ℕ) (h : PartlyFrom ws D head first n i left vs) (whole : length D ≡ n) where
  module _ (l : first < i) (room : first + n < length ws) where
    long_left : length (decimal left) ≡ i - first
    long_left = ap length (h.number l) ∙ length-take-le (i - first) D (omega (arith, h.upto, whole))

    digit_here : get_or D (i - 1 - first) 0 ≡ 48 + left % 10
    digit_here =
        let m : length (decimal left) ≡ i - 1 - first + 1 = omega (arith, long_left) in
        sym (get_or-take (i - first) D (i - 1 - first) 0 (omega arith)) ∙ ap (λ ds. get_or ds (i - 1 - first) 0) (sym (h.number l)) ∙ last_digit left h.small (i - 1 - first) m

    pub more_from : PartlyFrom ws D head first n (i - 1) (left / 10) (set vs (i - 1) (48 + left % 10))
    more_from =
        let d = 48 + left % 10 in
        let place : i - 1 + 1 ≡ i = omega arith in
        let up : i - 1 - first + 1 ≡ i - first = omega arith in
        record {
          from = omega arith;
          upto = omega (arith, h.upto);
          long = length-set vs (i - 1) d ∙ h.long;
          front = take-set-le first vs (i - 1) d (omega arith) ∙ h.front;
          back =
              drop-set vs (i - 1) d (omega (arith, h.long, h.upto))
              ∙ ap (λ x. d ∷ drop x vs) place
              ∙ ap (λ xs. d ∷ xs) h.back
              ∙ ap (λ x. x ∷ (drop (i - first) D ++ (32 ∷ drop (first + n + 1) ws))) (sym digit_here)
              ∙ ap (λ x. get_or D (i - 1 - first) 0 ∷ (drop x D ++ (32 ∷ drop (first + n + 1) ws))) (sym up)
              ∙ ap (λ xs. xs ++ (32 ∷ drop (first + n + 1) ws)) (sym (drop_more D (i - 1 - first) 0 (omega (arith, h.upto, whole))));
          number = λ m.
              let ten : 10 ≤ left = ⊎_elim (λ (b : left < 10). absurd (omega (arith, one_digit left b, long_left))) (λ (g : 10 ≤ left). g) (cases_lt left 10) in
              let s = decimal_step left ten (omega (arith, h.small)) in
              let n10 : length (decimal (left / 10)) ≡ i - 1 - first = omega (arith, digit_more left ten h.small, long_left) in
              sym (take_at (decimal (left / 10)) ((48 + left % 10) ∷ []) (i - 1 - first) n10)
              ∙ ap (take (i - 1 - first)) (sym s ∙ h.number l)
              ∙ take-take (i - 1 - first) (i - first) D (omega arith);
          small = omega (arith, h.small);
        }

  -- all is written
  module _ (l : i ≤ first) (room : first + n < length ws) where
    all : vs ≡ head ++ (D ++ (32 ∷ drop (first + n + 1) ws))
    all =
        let at : i ≡ first = omega (arith, h.from) in
        let none : i - first ≡ 0 = omega arith in
        sym (take-append-drop first vs)
        ∙ ap (λ xs. xs ++ drop first vs) h.front
        ∙ ap (λ xs. head ++ xs) (ap (λ x. drop x vs) (sym at) ∙ h.back ∙ ap (λ x. drop x D ++ (32 ∷ drop (first + n + 1) ws)) none)

    apart : vs ≡ (head ++ (D ++ (32 ∷ []))) ++ drop (first + n + 1) ws
    apart = all ∙ ap (λ xs. head ++ xs) (sym (append_assoc D (32 ∷ []) (drop (first + n + 1) ws))) ∙ sym (append_assoc head (D ++ (32 ∷ [])) (drop (first + n + 1) ws))

    long_front : length (head ++ (D ++ (32 ∷ []))) ≡ first + n + 1
    long_front = omega (arith, length-append head (D ++ (32 ∷ [])), length-append D (32 ∷ []), ap length h.front, length-take-le first vs (omega (arith, h.long)), whole)

    pub written_from : take (first + n + 1) vs ≡ head ++ (D ++ (32 ∷ []))
    written_from = ap (take (first + n + 1)) apart ∙ take_at (head ++ (D ++ (32 ∷ []))) (drop (first + n + 1) ws) (first + n + 1) long_front

    pub rest_from : drop (first + n + 1) vs ≡ drop (first + n + 1) ws
    rest_from = ap (drop (first + n + 1)) apart ∙ drop_at (head ++ (D ++ (32 ∷ []))) (drop (first + n + 1) ws) (first + n + 1) long_front

-- the same by how many digits are written
module _ (ws D head : List ℕ) (first n j left : ℕ) (vs : List ℕ) where
  by_place : Partly ws D head first n j left vs → PartlyFrom ws D head first n (first + (n - j)) left vs
  by_place h =
      let e : first + (n - j) - first ≡ n - j = omega arith in
      record {
        from = omega arith;
        upto = omega arith;
        long = h.long;
        front = h.front;
        back = h.back ∙ ap (λ k. drop k D ++ (32 ∷ drop (first + n + 1) ws)) (sym e);
        number = λ l. h.number (omega arith) ∙ ap (λ k. take k D) (sym e);
        small = h.small;
      }

  by_count : PartlyFrom ws D head first n (first + (n - j)) left vs → Partly ws D head first n j left vs
  by_count h =
      let e : first + (n - j) - first ≡ n - j = omega arith in
      record {
        long = h.long;
        front = h.front;
        back = h.back ∙ ap (λ k. drop k D ++ (32 ∷ drop (first + n + 1) ws)) e;
        number = λ l. h.number (omega arith) ∙ ap (λ k. take k D) e;
        small = h.small;
      }

module _ (ws D head : List ℕ) (first n j left : ℕ) (vs : List ℕ) (h : Partly ws D head first n j left vs) (whole : length D ≡ n) where
  module _ (l : j < n) (room : first + n < length ws) where
    pub more : Partly ws D head first n (j + 1) (left / 10) (set vs (first + (n - (j + 1))) (48 + left % 10))
    more =
        let i = first + (n - j) in
        let e : i - 1 ≡ first + (n - (j + 1)) = omega arith in
        by_count ws D head first n (j + 1) (left / 10) _
        (subst (λ k. PartlyFrom ws D head first n k (left / 10) (set vs k (48 + left % 10))) e
        (more_from ws D head first n i left vs (by_place ws D head first n j left vs h) whole (omega arith) room))

  module _ (l : n ≤ j) (room : first + n < length ws) where
    pub written : take (first + n + 1) vs ≡ head ++ (D ++ (32 ∷ []))
    written = written_from ws D head first n (first + (n - j)) left vs (by_place ws D head first n j left vs h) whole (omega arith) room

    pub rest : drop (first + n + 1) vs ≡ drop (first + n + 1) ws
    rest = rest_from ws D head first n (first + (n - j)) left vs (by_place ws D head first n j left vs h) whole (omega arith) room
