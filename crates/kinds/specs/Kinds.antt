-- What a kind of limit computes, and the laws that every kind keeps. Assumes nothing.
use Rattle.std.specs.Prelude.{◌≡◌, ℕ, ◌≤◌, Bool, true, List, fold}

-- the five functions of a kind: K is the kind's values, S its states, U its uses
pub record Model (K S U : Type 0) : Type 0 where
  pub start : K → S
  pub extended : K → S → U → S
  pub within : K → S → Bool
  pub covers : K → S → S → Bool
  pub figure : K → S → ℕ

pub record Laws {K S U : Type 0} (m : Model K S U) : Type 0 where
  -- a state covers itself
  pub itself : (k : K) (a : S) → m.covers k a a ≡ true
  -- covering is transitive
  pub chain : (k : K) (a b c : S) → m.covers k a b ≡ true → m.covers k b c ≡ true → m.covers k a c ≡ true
  -- if a covers b, then a extended covers b extended over the same use
  pub extends : (k : K) (a b : S) (u : U) → m.covers k a b ≡ true → m.covers k (m.extended k a u) (m.extended k b u) ≡ true
  -- if a covers b and b is within, a is within
  pub keeps : (k : K) (a b : S) → m.covers k a b ≡ true → m.within k b ≡ true → m.within k a ≡ true
  -- a state covers its own extension
  pub grows : (k : K) (a : S) (u : U) → m.covers k a (m.extended k a u) ≡ true
  -- if a covers b, the figure of a is at most that of b
  pub ranks : (k : K) (a b : S) → m.covers k a b ≡ true → m.figure k a ≤ m.figure k b

-- the start state extended over the uses in order
abbrev pub along : {K S U : Type 0} → Model K S U → K → List U → S
along m k us = fold (m.extended k) (m.start k) us
