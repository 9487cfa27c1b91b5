pub mod FollowFacts
