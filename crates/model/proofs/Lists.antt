-- Tests and lists: what the other laws need and the libraries lack.
use mathlib.Core.Path.{◌≡◌, refl}
use mathlib.Core.Logic.{◌⊎◌, inl, inr, ⊎_elim}
use mathlib.Core.Bool.{Bool, true, false, ◌&&◌, ◌||◌}
use mathlib.Core.List.Memᴰ
use mathlib.Core.List.{List, [], ◌∷◌, Memᴰ, Sublistᴰ}
use Prim.Native.Nat.{ℕ, zero, suc, ◌≤◌, ◌<◌}
use native.Mathlib.Nat.{lt_of_not-le, eq-or-lt_of_le}
use native.Mathlib.Decide.{dec_le}
use native.Mathlib.Omega.{arith}
use lib.Dec.{T, eqb, eqb_refl}
use lib.ListN.{length}
use Rattle.model.specs.Cut.{some_up_to}
use Rattle.model.specs.Clause.{some_of, every_of}

pub le_or_lt : (a b : ℕ) → (a ≤ b) ⊎ (b < a)
le_or_lt a b = elim (dec_le a b) [ yes h ↦ inl h | no h ↦ inr (lt_of_not-le h) ]

pub eq→eqb : (m n : ℕ) → m ≡ n → T (eqb m n)
eq→eqb m n e = rw e (eqb_refl n)

pub and_T : (a b : Bool) → T (a && b) → T a × T b
and_T true b t = (tt, t)
and_T false b t = absurd t

pub T_and : (a b : Bool) → T a → T b → T (a && b)
T_and true b x y = y
T_and false b x y = absurd x

pub or_T : (a b : Bool) → T (a || b) → T a ⊎ T b
or_T true b t = inl tt
or_T false b t = inr t

pub T-or : (a b : Bool) → T a ⊎ T b → T (a || b)
T-or true b t = tt
T-or false b (inl t) = absurd t
T-or false b (inr t) = t

-- ---- tests over numbers

module _ (f : ℕ → Bool) where
  pub some_at : (n : ℕ) → T (some_up_to f n) → (k : ℕ) × (1 ≤ k) × (k ≤ n) × T (f k)
  some_at zero t = absurd t
  some_at (suc n) t = ⊎_elim
      (λ u. (suc n, omega arith, omega arith, u))
      (λ u. let (k, p, q, v) = some_at n u in (k, p, omega arith, v))
      (or_T (f (suc n)) (some_up_to f n) t)

  pub at_some : (n k : ℕ) → 1 ≤ k → k ≤ n → T (f k) → T (some_up_to f n)
  at_some zero k p q t = absurd (omega arith)
  at_some (suc n) k p q t = T-or (f (suc n)) (some_up_to f n)
      (⊎_elim (λ e. inl (rw e at t)) (λ h. inr (at_some n k p (omega arith) t)) (eq-or-lt_of_le q))

abbrev pub every_below : (ℕ → Bool) → ℕ → Bool
every_below f zero = true
every_below f (suc n) = f n && every_below f n

module _ (f : ℕ → Bool) where
  pub every-below : (n : ℕ) → T (every_below f n) → (i : ℕ) → i < n → T (f i)
  every-below zero t i h = absurd (omega arith)
  every-below (suc n) t i h =
      let (a, b) = and_T (f n) (every_below f n) t in
      ⊎_elim (λ e. let z : i ≡ n = omega arith in rw z a) (λ g. every-below n b i (omega arith)) (eq-or-lt_of_le h)

  pub below_every : (n : ℕ) → ((i : ℕ) → i < n → T (f i)) → T (every_below f n)
  below_every zero w = tt
  below_every (suc n) w = T_and (f n) (every_below f n) (w n (omega arith)) (below_every n (λ i h. w i (omega arith)))

-- ---- tests over lists

module _ {A : Type 0} (f : A → Bool) where
  -- a test that some pass stays true with more, and one that every one passes with fewer
  pub some_more : {xs ys : List A} → Sublistᴰ xs ys → T (some_of f xs) → T (some_of f ys)
  some_more Sublistᴰ.slnil t = t
  some_more (Sublistᴰ.cons {a = a} {l₁ = xs} {l₂ = ys} p) t = T-or (f a) (some_of f ys) (inr (some_more p t))
  some_more (Sublistᴰ.cons-cons {a = a} {b = b} {l₁ = xs} {l₂ = ys} e p) t =
      T-or (f b) (some_of f ys) (elim (or_T (f a) (some_of f xs) t) [ inl u ↦ inl (rw e at u) | inr u ↦ inr (some_more p u) ])

  pub every_fewer : {xs ys : List A} → Sublistᴰ xs ys → T (every_of f ys) → T (every_of f xs)
  every_fewer Sublistᴰ.slnil t = t
  every_fewer (Sublistᴰ.cons {a = a} {l₁ = xs} {l₂ = ys} p) t = every_fewer p (and_T (f a) (every_of f ys) t).1
  every_fewer (Sublistᴰ.cons-cons {a = a} {b = b} {l₁ = xs} {l₂ = ys} e p) t =
      let u = and_T (f b) (every_of f ys) t in T_and (f a) (every_of f xs) (rw e u.0) (every_fewer p u.1)

  pub every_mem : {x : A} {xs : List A} → T (every_of f xs) → Memᴰ x xs → T (f x)
  every_mem t (Memᴰ.head {x} {xs} e) = rw e (and_T (f x) (every_of f xs) t).0
  every_mem t (Memᴰ.tail {x} {xs} m) = every_mem (and_T (f x) (every_of f xs) t).1 m

  pub mem_every : (xs : List A) → ((x : A) → Memᴰ x xs → T (f x)) → T (every_of f xs)
  mem_every [] h = tt
  mem_every (x ∷ xs) h = T_and (f x) (every_of f xs) (h x (Memᴰ.head refl)) (mem_every xs (λ y m. h y (Memᴰ.tail m)))

  pub some_mem : (xs : List A) → T (some_of f xs) → (x : A) × Memᴰ x xs × T (f x)
  some_mem [] t = absurd t
  some_mem (x ∷ xs) t = elim (or_T (f x) (some_of f xs) t) [ inl u ↦ (x, Memᴰ.head refl, u) | inr u ↦ (let (y, m, v) = some_mem xs u in (y, Memᴰ.tail m, v)) ]

  pub mem_some : {x : A} {xs : List A} → Memᴰ x xs → T (f x) → T (some_of f xs)
  mem_some (Memᴰ.head {x} {xs} e) t = T-or (f x) (some_of f xs) (inl (rw e at t))
  mem_some (Memᴰ.tail {x} {xs} m) t = T-or (f x) (some_of f xs) (inr (mem_some m t))

pub fewer_length : {A : Type 0} {xs ys : List A} → Sublistᴰ xs ys → length xs ≤ length ys
fewer_length Sublistᴰ.slnil = omega arith
fewer_length (Sublistᴰ.cons p) = omega (arith, fewer_length p)
fewer_length (Sublistᴰ.cons-cons e p) = omega (arith, fewer_length p)

-- ---- the entries that pass a test

module _ {A : Type 0} where
  abbrev pub put : Bool → A → List A → List A
  put true x xs = x ∷ xs
  put false x xs = xs

  abbrev pub keep : (A → Bool) → List A → List A
  keep f [] = []
  keep f (x ∷ xs) = put (f x) x (keep f xs)

  pub keep_mem : (f : A → Bool) (x : A) (xs : List A) → Memᴰ x (keep f xs) → T (f x)
  keep_mem f x [] m = absurd (Memᴰ.not-nil m)
  keep_mem f x (y ∷ xs) m = go (keep_mem f x xs) (f y) refl m
    where
      go : (Memᴰ x (keep f xs) → T (f x)) → (b : Bool) → f y ≡ b → Memᴰ x (put b y (keep f xs)) → T (f x)
      go rest true e (Memᴰ.head q) = rw (q, e) tt
      go rest true e (Memᴰ.tail q) = rest q
      go rest false e q = rest q

  pub mem_keep : (f : A → Bool) {x : A} {xs : List A} → Memᴰ x xs → T (f x) → Memᴰ x (keep f xs)
  mem_keep f {x} (Memᴰ.head {x = y} {xs} e) t = go (f y) (rw e at t)
    where
      go : (b : Bool) → T b → Memᴰ x (put b y (keep f xs))
      go true u = Memᴰ.head e
      go false u = absurd u
  mem_keep f {x} (Memᴰ.tail {x = y} {xs} m) t = go (f y) (mem_keep f m t)
    where
      go : (b : Bool) → Memᴰ x (keep f xs) → Memᴰ x (put b y (keep f xs))
      go true q = Memᴰ.tail q
      go false q = q
