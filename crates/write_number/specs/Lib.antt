pub mod NumberAt
