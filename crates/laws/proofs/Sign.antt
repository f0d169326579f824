-- Rounding keeps the sign, and is symmetric in it: a product's sign goes through, bit for bit. And what a NaN does to the operations, and to a list read past its end. Assumes nothing.
use Prim.Native.Nat.{ℕ, zero, suc, ◌+◌, ◌*◌, ◌^◌}
use mathlib.Core.Path.{◌≡◌, refl, sym, ap, ◌∙◌}
use mathlib.Core.Bool.{Bool, true, false, not, cond}
use mathlib.Core.List.{List, map}
use lib.Dec.{ltb, eqb}
use lib.Ieee.{Float, nan, inf, fin, Format, binary32, prec, emax, low, unlike, up, down, odd, units, round, neg, add, mul, of_bits}
use lib.IntN.{pos}
use lib.ListN.{get_or, get_or-map}

odd_neg : (d : ℕ) (q k l : ℕ) → odd d true q k l ≡ neg (odd d false q k l)
unfolding odd neg
odd_neg d zero k l = refl
odd_neg d (suc q) k l = refl

units-neg : (f : Format) (q k : ℕ) → units f true q k ≡ neg (units f false q k)
unfolding units neg
units-neg f q k = go (ltb (q * 2 ^ k) (2 ^ (low f + suc (emax f))))
  where
    go : (b : Bool) → cond b (odd (suc (prec f)) true q k (low f)) (inf true) ≡ neg (cond b (odd (suc (prec f)) false q k (low f)) (inf false))
    go true = odd_neg (suc (prec f)) q k (low f)
    go false = refl

pub round_neg : (f : Format) (a c : ℕ) → round f true a c ≡ neg (round f false a c)
unfolding round
round_neg f a c = units-neg f _ _

-- x has the sign plus, whatever its size
abbrev pub Plus : Float → Type 0
Plus nan = ⊥
Plus (inf s) = s ≡ false
Plus (fin s m e) = s ≡ false

odd_plus : (d q k l : ℕ) → Plus (odd d false q k l)
unfolding odd
odd_plus d zero k l = refl
odd_plus d (suc q) k l = refl

units-plus : (f : Format) (q k : ℕ) → Plus (units f false q k)
unfolding units
units-plus f q k = go (ltb (q * 2 ^ k) (2 ^ (low f + suc (emax f))))
  where
    go : (b : Bool) → Plus (cond b (odd (suc (prec f)) false q k (low f)) (inf false))
    go true = odd_plus (suc (prec f)) q k (low f)
    go false = refl

pub round_plus : (f : Format) (a c : ℕ) → Plus (round f false a c)
unfolding round
round_plus f a c = units-plus f _ _

pub neg-neg : (x : Float) → neg (neg x) ≡ x
unfolding neg
neg-neg nan = refl
neg-neg (inf true) = refl
neg-neg (inf false) = refl
neg-neg (fin true m e) = refl
neg-neg (fin false m e) = refl

round_not : (f : Format) (s : Bool) (a c : ℕ) → round f (not s) a c ≡ neg (round f s a c)
round_not f true a c = sym (ap neg (round_neg f a c) ∙ neg-neg (round f false a c))
round_not f false a c = round_neg f a c

unlike_not : (s t : Bool) → unlike (not s) t ≡ not (unlike s t)
unlike_not true true = refl
unlike_not true false = refl
unlike_not false true = refl
unlike_not false false = refl

cond-neg : (b : Bool) (s : Bool) → cond b nan (inf (not s)) ≡ neg (cond b nan (inf s))
unfolding neg
cond-neg true s = refl
cond-neg false s = refl

pub mul-neg : (f : Format) (x y : Float) → mul f (neg x) y ≡ neg (mul f x y)
unfolding mul neg
mul-neg f nan y = refl
mul-neg f (inf s) nan = refl
mul-neg f (inf s) (inf t) = ap inf (unlike_not s t)
mul-neg f (inf s) (fin t n d) = ap (λ (u : Bool). cond (eqb n 0) nan (inf u)) (unlike_not s t) ∙ cond-neg (eqb n 0) (unlike s t)
mul-neg f (fin s m e) nan = refl
mul-neg f (fin s m e) (inf t) = ap (λ (u : Bool). cond (eqb m 0) nan (inf u)) (unlike_not s t) ∙ cond-neg (eqb m 0) (unlike s t)
mul-neg f (fin s m e) (fin t n d) = ap (λ (u : Bool). round f u (m * up e * (n * up d)) (down e * down d)) (unlike_not s t) ∙ round_not f (unlike s t) (m * up e * (n * up d)) (down e * down d)

pub neg-nan : neg nan ≡ nan
unfolding neg
neg-nan = refl

pub get_or-negs : (l : List Float) (k : ℕ) → get_or (map neg l) k nan ≡ neg (get_or l k nan)
get_or-negs l k = ap (λ (d : Float). get_or (map neg l) k d) (sym neg-nan) ∙ get_or-map neg l k nan

pub mul-nan : (f : Format) (y : Float) → mul f nan y ≡ nan
unfolding mul
mul-nan f y = refl

pub mul-nan_right : (f : Format) (x : Float) → mul f x nan ≡ nan
unfolding mul
mul-nan_right f nan = refl
mul-nan_right f (inf s) = refl
mul-nan_right f (fin s m e) = refl

pub add-nan : (f : Format) (y : Float) → add f nan y ≡ nan
unfolding add
add-nan f y = refl

pub add-nan_right : (f : Format) (x : Float) → add f x nan ≡ nan
unfolding add
add-nan_right f nan = refl
add-nan_right f (inf s) = refl
add-nan_right f (fin s m e) = refl

pub zero_bits : of_bits binary32 0 ≡ fin false 0 (pos 0)
unfolding of_bits
zero_bits = refl
