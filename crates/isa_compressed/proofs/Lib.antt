pub mod QuadrantFacts
